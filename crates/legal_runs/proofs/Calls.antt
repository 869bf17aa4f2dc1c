-- A whole line makes just the calls of its command.
use Rattle.std.proofs.Common.{◌≡◌, ◌∙◌, ◌⊎◌, inl, inr, ℕ, true, false, List, [], ◌∷◌, ◌++◌, length, Option, Some, None, refl, sym, ap}
use Rattle.acl_names.specs.declared.auth.AuthId.{AuthId}
use Rattle.acl_stmt.specs.declared.privileges.PrivList.{PrivList}
use Rattle.acl_stmt.specs.declared.roles.RoleForm.{RoleForm}
use Rattle.acl_stmt.specs.declared.statement.Statement.{Statement}
use Rattle.acl_stmt.specs.declared.target.Target.{Target}
use Rattle.book_log.specs.Items.{Knock}
use Rattle.legal_runs.specs.Commands.{Answer, Command}
use Rattle.legal_runs.specs.Commands.Answer.{Connected, Done, NoEntry, NoMemory, NotConnected, RefusedLogin, RefusedStatement}
use Rattle.legal_runs.specs.Commands.Command.{Await, Check, Connect, Disconnect, Issue, SetRole, ShowGrants, UseSchema}
use Rattle.legal_runs.specs.Lines.{IsAnsweredAs, IsAwaited, IsGivenUp, IsOneRead, IsPublished, IsRefusedLine, IsUnpublished, IsWhole, Reads, seeing}
use Rattle.legal_runs.specs.Report.{call_count}
use Rattle.legal_runs.specs.Rules.{Setting, completed}
use Rattle.legal_runs.specs.Sessions.{Part, Session, Views, Who, calls_in}
use Rattle.legal_runs.specs.Sessions.Part.{Called, Heard, Saw}

no_calls : (seen : List ℕ) → calls_in (seeing seen) ≡ []
no_calls [] = refl
no_calls (n ∷ seen) = no_calls seen

-- the calls of these parts are so many
count_of : (parts more : List Part) (answer other : Answer) (command : Command) → parts ≡ more → answer ≡ other →
    length (calls_in more) ≡ call_count command other → length (calls_in parts) ≡ call_count command answer
count_of parts more answer other command is answer_is counted = ap (λ parts. length (calls_in parts)) is ∙ counted ∙ ap (call_count command) (sym answer_is)

given_count : (who : Option Who) (command : Command) (parts : List Part) (answer : Answer) →
    ((other : Answer) → (other ≡ NoMemory) ⊎ (Reads who command × (other ≡ NoEntry)) → call_count command other ≡ 0) →
    IsGivenUp who command parts answer → length (calls_in parts) ≡ call_count command answer
given_count who command parts answer counts given = by given.answer_is given.reads
  where
    no_items : length (calls_in parts) ≡ 0
    no_items = ap (λ parts. length (calls_in parts)) given.parts_are ∙ ap length (no_calls given.seen)

    by : (answer ≡ NoMemory) ⊎ (answer ≡ NoEntry) → Reads who command ⊎ ((given.seen ≡ []) × (answer ≡ NoMemory)) →
        length (calls_in parts) ≡ call_count command answer
    by (inl is) reads = no_items ∙ sym (counts answer (inl is))
    by (inr is) (inl reads) = no_items ∙ sym (counts answer (inr (reads, is)))
    by (inr is) (inr both) = no_items ∙ sym (counts answer (inl both.1))

connect_none : (who : Option Who) (knock : Knock) (answer : Answer) → (answer ≡ NoMemory) ⊎ (Reads who (Connect knock) × (answer ≡ NoEntry)) →
    call_count (Connect knock) answer ≡ 0
connect_none who knock answer (inl is) = ap (call_count (Connect knock)) is
connect_none None knock answer (inr reads) = absurd reads.0
connect_none (Some who) knock answer (inr reads) = absurd reads.0

issue_none : (who : Option Who) (statement : Statement) (answer : Answer) → (answer ≡ NoMemory) ⊎ (Reads who (Issue statement) × (answer ≡ NoEntry)) →
    call_count (Issue statement) answer ≡ 0
issue_none who statement answer (inl is) = ap (call_count (Issue statement)) is
issue_none None statement answer (inr reads) = absurd reads.0
issue_none (Some who) statement answer (inr reads) = absurd reads.0

connect_count : (on : Setting) (at : Views) (who : Option Who) (knock : Knock) (parts : List Part) (answer : Answer) →
    (IsAnsweredAs on at who (Connect knock) parts answer ⊎ IsGivenUp who (Connect knock) parts answer) → length (calls_in parts) ≡ call_count (Connect knock) answer
connect_count on at who knock parts answer (inl (inl entered)) =
    count_of parts (Called entered.item ∷ Heard entered.told ∷ []) answer (Connected entered.login.shown) (Connect knock) entered.parts_are entered.answer_is refl
connect_count on at who knock parts answer (inl (inr kept)) =
    count_of parts (Called kept.item ∷ []) answer (RefusedLogin kept.why) (Connect knock) kept.parts_are kept.answer_is refl
connect_count on at who knock parts answer (inr given) =
    given_count who (Connect knock) parts answer (connect_none who knock) given

issue_count : (on : Setting) (at : Views) (who : Option Who) (statement : Statement) (parts : List Part) (answer : Answer) →
    (IsAnsweredAs on at who (Issue statement) parts answer ⊎ IsGivenUp who (Issue statement) parts answer) → length (calls_in parts) ≡ call_count (Issue statement) answer
issue_count on at None statement parts answer (inl answered) = count_of parts [] answer NotConnected (Issue statement) answered.0 answered.1 refl
issue_count on at (Some who) statement parts answer (inl issued) = by issued.answered
  where
    by : (IsPublished issued.acting (completed who.account statement) parts answer
        ⊎ (IsUnpublished issued.acting (completed who.account statement) parts answer ⊎ IsRefusedLine issued.acting (completed who.account statement) parts answer)) →
        length (calls_in parts) ≡ call_count (Issue statement) answer
    by (inl one) = count_of parts (Called one.item ∷ Heard one.told ∷ []) answer (Done one.position true) (Issue statement) one.parts_are one.answer_is refl
    by (inr (inl one)) = count_of parts (Called one.item ∷ []) answer (Done one.position false) (Issue statement) one.parts_are one.answer_is refl
    by (inr (inr one)) = count_of parts (Called one.item ∷ []) answer (RefusedStatement one.why) (Issue statement) one.parts_are one.answer_is refl
issue_count on at who statement parts answer (inr given) = given_count who (Issue statement) parts answer (issue_none who statement) given

-- parts without a call
quiet : (parts more : List Part) → parts ≡ more → calls_in more ≡ [] → length (calls_in parts) ≡ 0
quiet parts more is none = ap (λ parts. length (calls_in parts)) is ∙ ap length none

one_read : (parts : List Part) → IsOneRead parts → length (calls_in parts) ≡ 0
one_read parts read = quiet parts (Saw read.seen ∷ []) read.parts_are refl

given_quiet : (who : Option Who) (command : Command) (parts : List Part) (answer : Answer) → IsGivenUp who command parts answer → length (calls_in parts) ≡ 0
given_quiet who command parts answer given = quiet parts (seeing given.seen) given.parts_are (no_calls given.seen)

quiet_count : (on : Setting) (at : Views) (who : Option Who) (command : Command) (parts : List Part) (answer : Answer) →
    (IsAnsweredAs on at who command parts answer → length (calls_in parts) ≡ 0) →
    (IsAnsweredAs on at who command parts answer ⊎ IsGivenUp who command parts answer) → length (calls_in parts) ≡ 0
quiet_count on at who command parts answer rule (inl answered) = rule answered
quiet_count on at who command parts answer rule (inr given) = given_quiet who command parts answer given

quiet_rule : (on : Setting) (at : Views) (who : Option Who) (command : Command) (parts : List Part) (answer : Answer) → Type 0
quiet_rule on at who command parts answer = IsAnsweredAs on at who command parts answer → length (calls_in parts) ≡ 0

disconnect_quiet : (on : Setting) (at : Views) (who : Option Who) (parts : List Part) (answer : Answer) → quiet_rule on at who Disconnect parts answer
unfolding quiet_rule
disconnect_quiet on at None parts answer answered = quiet parts [] answered.0 refl
disconnect_quiet on at (Some who) parts answer answered = quiet parts [] answered.0 refl

use_quiet : (on : Setting) (at : Views) (who : Option Who) (schema : List ℕ) (parts : List Part) (answer : Answer) → quiet_rule on at who (UseSchema schema) parts answer
unfolding quiet_rule
use_quiet on at None schema parts answer answered = quiet parts [] answered.0 refl
use_quiet on at (Some who) schema parts answer answered = one_read parts answered.0

role_quiet : (on : Setting) (at : Views) (who : Option Who) (form : RoleForm) (parts : List Part) (answer : Answer) → quiet_rule on at who (SetRole form) parts answer
unfolding quiet_rule
role_quiet on at None form parts answer answered = quiet parts [] answered.0 refl
role_quiet on at (Some who) form parts answer answered = one_read parts answered.0

check_quiet : (on : Setting) (at : Views) (who : Option Who) (privileges : PrivList) (target : Target) (parts : List Part) (answer : Answer) →
    quiet_rule on at who (Check privileges target) parts answer
unfolding quiet_rule
check_quiet on at None privileges target parts answer answered = quiet parts [] answered.0 refl
check_quiet on at (Some who) privileges target parts answer answered = one_read parts answered.0

show_quiet : (on : Setting) (at : Views) (who : Option Who) (account : Option AuthId) (roles : List AuthId) (parts : List Part) (answer : Answer) →
    quiet_rule on at who (ShowGrants account roles) parts answer
unfolding quiet_rule
show_quiet on at None account roles parts answer answered = quiet parts [] answered.0 refl
show_quiet on at (Some who) account roles parts answer answered = one_read parts answered.0

await_quiet : (wanted turns : ℕ) (parts : List Part) (answer : Answer) → IsAwaited wanted turns parts answer → length (calls_in parts) ≡ 0
await_quiet wanted turns parts answer awaited =
    quiet parts (seeing (awaited.short ++ awaited.last ∷ [])) awaited.parts_are (no_calls (awaited.short ++ awaited.last ∷ []))

pub calls_are_counted : (on : Setting) (at : Views) (session : Session) (command : Command) (parts : List Part) (answer : Answer) →
    IsWhole on at session command parts answer → length (calls_in parts) ≡ call_count command answer
unfolding IsWhole quiet_rule
calls_are_counted on at session (Connect knock) parts answer whole = connect_count on at session.who knock parts answer whole
calls_are_counted on at session (Issue statement) parts answer whole = issue_count on at session.who statement parts answer whole
calls_are_counted on at session Disconnect parts answer whole =
    quiet_count on at session.who Disconnect parts answer (disconnect_quiet on at session.who parts answer) whole
calls_are_counted on at session (UseSchema schema) parts answer whole =
    quiet_count on at session.who (UseSchema schema) parts answer (use_quiet on at session.who schema parts answer) whole
calls_are_counted on at session (SetRole form) parts answer whole =
    quiet_count on at session.who (SetRole form) parts answer (role_quiet on at session.who form parts answer) whole
calls_are_counted on at session (Check privileges target) parts answer whole =
    quiet_count on at session.who (Check privileges target) parts answer (check_quiet on at session.who privileges target parts answer) whole
calls_are_counted on at session (ShowGrants account roles) parts answer whole =
    quiet_count on at session.who (ShowGrants account roles) parts answer (show_quiet on at session.who account roles parts answer) whole
calls_are_counted on at session (Await wanted turns) parts answer whole =
    quiet_count on at session.who (Await wanted turns) parts answer (await_quiet wanted turns parts answer) whole
