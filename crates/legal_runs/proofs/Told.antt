-- A session goes onward through legal lines, and is never behind what it was told.
use Rattle.std.proofs.Common.{◌≡◌, ◌⊎◌, inl, inr, ℕ, ◌≤◌, true, List, [], ◌∷◌, ◌++◌, length, Option, Some, None, refl, sym, subst, arith}
use Rattle.std.specs.Option.{option_map}
use Rattle.acl_stmt.specs.declared.entry.Entry.{Entry}
use Rattle.acl_stmt.specs.declared.statement.Statement.{Statement}
use Rattle.book_log.specs.Items.{Login}
use Rattle.legal_runs.proofs.Onward.{onward_more, onward_within}
use Rattle.legal_runs.proofs.Points.{IsTold, connect_told, line_now}
use Rattle.legal_runs.specs.Commands.{Answer, Command}
use Rattle.legal_runs.specs.Commands.Answer.{Done, NoEntry, NoMemory}
use Rattle.legal_runs.specs.Commands.Command.{Connect, Issue}
use Rattle.legal_runs.specs.Core.{Turn, session_after}
use Rattle.legal_runs.specs.Lines.{IsAnsweredAs, IsGivenUp, IsPublished, IsRefusedLine, IsUnpublished, IsWhole}
use Rattle.legal_runs.specs.Report.{AreLegal, told_of}
use Rattle.legal_runs.specs.Rules.{Setting, completed}
use Rattle.legal_runs.specs.Sessions.{Part, Session, Views, Who, calls_in, login_in, now_after, views}
use Rattle.priv_map.specs.declared.acting.Acting.{Acting}

pub goes_onward : (on : Setting) (entries : List Entry) (turn : Turn) (turns : List Turn) → AreLegal on entries (turn ∷ turns) →
    ((session_after turns).now ≤ (session_after (turn ∷ turns)).now) × ((session_after (turn ∷ turns)).now ≤ length entries)
goes_onward on entries turn turns legal =
    let session : Session = session_after turns in
    let same = line_now turn.command turn.parts turn.answer session in
    let more = onward_more (length entries) session.now turn.parts legal.1.onward in
    let within = onward_within (length entries) session.now turn.parts legal.1.onward in (omega (arith, same, more), omega (arith, same, within))

login_told : (now : ℕ) (parts : List Part) (told : ℕ) (login : Option Login) → login_in (calls_in parts) ≡ login → IsTold now parts →
    option_map (λ (login : Login). login.position) login ≡ Some told → told ≤ now_after now parts
unfolding IsTold
login_told now parts told None is rule position = absurd (cc)
login_told now parts told (Some login) is rule position =
    let same : login.position ≡ told = cc in let within = rule login is in omega (arith, same, within)

published_told : (now told : ℕ) (acting : Acting) (statement : Statement) (parts : List Part) → IsPublished acting statement parts (Done told true) →
    told ≤ now_after now parts
published_told now told acting statement parts published =
    subst (λ (parts : List Part). told ≤ now_after now parts) (sym published.parts_are)
    (let answer = published.answer_is in let same : told ≡ published.position = cc in let within = published.is_told in omega (arith, same, within))

issued_told : (on : Setting) (at : Views) (now told : ℕ) (who : Option Who) (statement : Statement) (parts : List Part) →
    (IsAnsweredAs on at who (Issue statement) parts (Done told true) ⊎ IsGivenUp who (Issue statement) parts (Done told true)) → told ≤ now_after now parts
issued_told on at now told None statement parts (inl answered) = let wrong = answered.1 in absurd (cc)
issued_told on at now told (Some who) statement parts (inl issued) = by issued.answered
  where
    by : (IsPublished issued.acting (completed who.account statement) parts (Done told true) ⊎ (IsUnpublished issued.acting (completed who.account statement) parts (Done told true) ⊎ IsRefusedLine issued.acting (completed who.account statement) parts (Done told true))) →
        told ≤ now_after now parts
    by (inl published) = published_told now told issued.acting (completed who.account statement) parts published
    by (inr (inl unpublished)) = let wrong = unpublished.answer_is in absurd (cc)
    by (inr (inr refused)) = let wrong = refused.answer_is in absurd (cc)
issued_told on at now told who statement parts (inr given) = by given.answer_is
  where
    by : ((Done told true ≡ NoMemory) ⊎ (Done told true ≡ NoEntry)) → told ≤ now_after now parts
    by (inl wrong) = absurd (cc)
    by (inr wrong) = absurd (cc)

answer_told : (on : Setting) (at : Views) (session : Session) (command : Command) (parts : List Part) (answer : Answer) (told : ℕ) →
    IsWhole on at session command parts answer → told_of command (calls_in parts) answer ≡ Some told → told ≤ now_after session.now parts
unfolding IsWhole
answer_told on at session (Connect knock) parts answer told whole is =
    login_told session.now parts told (login_in (calls_in parts)) refl (connect_told on at session knock parts answer whole) is
answer_told on at session (Issue statement) parts (Done position true) told whole is =
    let same : position ≡ told = cc in
    let within : position ≤ now_after session.now parts = issued_told on at session.now position session.who statement parts whole in omega (arith, same, within)
answer_told on at session (Issue statement) parts _ told whole is = absurd (cc)
answer_told on at session _ parts answer told whole is = absurd (cc)

now_since : (on : Setting) (entries : List Entry) (later : List Turn) (turns : List Turn) → AreLegal on entries (later ++ turns) →
    AreLegal on entries turns × ((session_after turns).now ≤ (session_after (later ++ turns)).now)
now_since on entries [] turns legal = (legal, omega arith)
now_since on entries (turn ∷ later) turns legal =
    let before = now_since on entries later turns legal.0 in
    let more = goes_onward on entries turn (later ++ turns) legal in
    let first = before.1 in let second = more.0 in (before.0, omega (arith, first, second))

pub told_since : (on : Setting) (entries : List Entry) (later : List Turn) (turn : Turn) (turns : List Turn) (told : ℕ) →
    AreLegal on entries (later ++ turn ∷ turns) → told_of turn.command (calls_in turn.parts) turn.answer ≡ Some told →
    told ≤ (session_after (later ++ turn ∷ turns)).now
told_since on entries later turn turns told legal is =
    let before = now_since on entries later (turn ∷ turns) legal in
    let session : Session = session_after turns in
    let same = line_now turn.command turn.parts turn.answer session in
    let within = answer_told on (views entries session turn.parts) session turn.command turn.parts turn.answer told before.0.1.whole is in
    let since = before.1 in omega (arith, same, within, since)
