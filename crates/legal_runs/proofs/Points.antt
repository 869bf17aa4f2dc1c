-- What a session has read is never more than what it knows.
use Rattle.std.proofs.Common.{◌≡◌, ◌∙◌, inl, inr, ℕ, max, ◌≤◌, List, [], ◌∷◌, Option, Some, None, refl, sym, ap, subst, arith}
use Rattle.book_log.specs.Items.{Knock, Login}
use Rattle.legal_runs.specs.Commands.{Answer, Command}
use Rattle.legal_runs.specs.Commands.Answer.{Bye, Roles, Schema}
use Rattle.legal_runs.specs.Commands.Command.{Connect, Disconnect, SetRole, UseSchema}
use Rattle.legal_runs.specs.Lines.{IsEntered, IsGivenUp, IsKeptOut, IsWhole, seeing}
use Rattle.legal_runs.specs.Rules.{Setting}
use Rattle.legal_runs.specs.Sessions.{Part, Session, Views, Who, after_connect, after_disconnect, after_line, after_roles, after_use, calls_in, login_by, login_in, now_after, seen_to}

pub record IsFit (session : Session) : Type 0 where
  pub global : session.global ≤ session.now
  pub schema : session.schema ≤ session.now

connect_now : (now : ℕ) (login : Option Login) (session : Session) → (after_connect now login session).now ≡ now
connect_now now (Some login) session = refl
connect_now now None session = refl

disconnect_now : (now : ℕ) (answer : Answer) (session : Session) → (after_disconnect now answer session).now ≡ now
disconnect_now now Bye session = refl
disconnect_now now _ session = refl

use_now : (now : ℕ) (answer : Answer) (session : Session) → (after_use now answer session).now ≡ now
use_now now (Schema schema) session = refl
use_now now _ session = refl

roles_now : (now : ℕ) (answer : Answer) (session : Session) → (after_roles now answer session).now ≡ now
roles_now now (Roles roles) session = refl
roles_now now _ session = refl

pub line_now : (command : Command) (parts : List Part) (answer : Answer) (session : Session) →
    (after_line command parts answer session).now ≡ now_after session.now parts
unfolding after_line
line_now (Connect knock) parts answer session = connect_now (now_after session.now parts) (login_in (calls_in parts)) session
line_now Disconnect parts answer session = disconnect_now (now_after session.now parts) answer session
line_now (UseSchema schema) parts answer session = use_now (now_after session.now parts) answer session
line_now (SetRole form) parts answer session = roles_now (now_after session.now parts) answer session
line_now _ parts answer session = refl

-- a login that is let in is told of at least its position
unfoldable pub IsTold : ℕ → List Part → Type 0
IsTold now parts = (login : Login) → login_in (calls_in parts) ≡ Some login → login.position ≤ now_after now parts

entered_told : (now : ℕ) (knock : Knock) (parts : List Part) (answer : Answer) → IsEntered knock parts answer → IsTold now parts
unfolding IsTold
entered_told now knock parts answer entered = subst (λ (parts : List Part). IsTold now parts) (sym entered.parts_are) told
  where
    told : (login : Login) → login_by entered.item.reply ≡ Some login → login.position ≤ max now entered.told
    told login is =
        let own : Some entered.login ≡ Some login = sym (ap login_by entered.reply_is) ∙ is in
        let same : entered.login ≡ login = cc in
        let position : entered.login.position ≡ login.position = ap (λ (login : Login). login.position) same in
        let within = entered.is_told in omega arith

kept_told : (now : ℕ) (knock : Knock) (parts : List Part) (answer : Answer) → IsKeptOut knock parts answer → IsTold now parts
unfolding IsTold
kept_told now knock parts answer kept = subst (λ (parts : List Part). IsTold now parts) (sym kept.parts_are) told
  where
    told : (login : Login) → login_by kept.item.reply ≡ Some login → login.position ≤ now
    told login is =
        let none : None ≡ Some login = sym (ap login_by kept.reply_is) ∙ is in absurd (cc)

no_calls : (seen : List ℕ) → calls_in (seeing seen) ≡ []
no_calls [] = refl
no_calls (n ∷ seen) = no_calls seen

given_up_told : (now : ℕ) (who : Option Who) (command : Command) (parts : List Part) (answer : Answer) → IsGivenUp who command parts answer → IsTold now parts
unfolding IsTold
given_up_told now who command parts answer given = subst (λ (parts : List Part). IsTold now parts) (sym given.parts_are) told
  where
    told : (login : Login) → login_in (calls_in (seeing given.seen)) ≡ Some login → login.position ≤ now_after now (seeing given.seen)
    told login is =
        let none : None ≡ Some login = sym (ap login_in (no_calls given.seen)) ∙ is in absurd (cc)

pub connect_told : (on : Setting) (at : Views) (session : Session) (knock : Knock) (parts : List Part) (answer : Answer) →
    IsWhole on at session (Connect knock) parts answer → IsTold session.now parts
unfolding IsWhole
connect_told on at session knock parts answer (inl (inl entered)) = entered_told session.now knock parts answer entered
connect_told on at session knock parts answer (inl (inr kept)) = kept_told session.now knock parts answer kept
connect_told on at session knock parts answer (inr given) = given_up_told session.now session.who (Connect knock) parts answer given

connect_fits : (now : ℕ) (login : Option Login) (session : Session) → IsFit session → session.now ≤ now →
    ((entered : Login) → login ≡ Some entered → entered.position ≤ now) → IsFit (after_connect now login session)
connect_fits now (Some login) session fit order told = record { global = told login refl; schema = told login refl }
connect_fits now None session fit order told =
    let global = fit.global in let schema = fit.schema in record { global = omega arith; schema = omega arith }

seen_fits : (now : ℕ) (session : Session) → IsFit session → session.now ≤ now → IsFit (seen_to now session)
seen_fits now session fit order = let global = fit.global in let schema = fit.schema in record { global = omega arith; schema = omega arith }

disconnect_fits : (now : ℕ) (answer : Answer) (session : Session) → IsFit session → session.now ≤ now → IsFit (after_disconnect now answer session)
disconnect_fits now Bye session fit order = let global = fit.global in let schema = fit.schema in record { global = omega arith; schema = omega arith }
disconnect_fits now _ session fit order = seen_fits now session fit order

use_fits : (now : ℕ) (answer : Answer) (session : Session) → IsFit session → session.now ≤ now → IsFit (after_use now answer session)
use_fits now (Schema schema) session fit order = let global = fit.global in record { global = omega arith; schema = omega arith }
use_fits now _ session fit order = seen_fits now session fit order

roles_fit : (now : ℕ) (answer : Answer) (session : Session) → IsFit session → session.now ≤ now → IsFit (after_roles now answer session)
roles_fit now (Roles roles) session fit order = record { global = omega arith; schema = omega arith }
roles_fit now _ session fit order = seen_fits now session fit order

pub line_fits : (on : Setting) (at : Views) (session : Session) (command : Command) (parts : List Part) (answer : Answer) → IsFit session →
    session.now ≤ now_after session.now parts → IsWhole on at session command parts answer → IsFit (after_line command parts answer session)
unfolding after_line IsTold
line_fits on at session (Connect knock) parts answer fit order whole =
    connect_fits (now_after session.now parts) (login_in (calls_in parts)) session fit order (connect_told on at session knock parts answer whole)
line_fits on at session Disconnect parts answer fit order whole = disconnect_fits (now_after session.now parts) answer session fit order
line_fits on at session (UseSchema schema) parts answer fit order whole = use_fits (now_after session.now parts) answer session fit order
line_fits on at session (SetRole form) parts answer fit order whole = roles_fit (now_after session.now parts) answer session fit order
line_fits on at session _ parts answer fit order whole = seen_fits (now_after session.now parts) session fit order
