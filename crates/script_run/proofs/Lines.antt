-- What a line that calls nobody makes of what is stored of its session, and what copies are copies of.
use Rattle.std.proofs.Common.{◌≡◌, ◌∙◌, ap, sym, subst, ℕ, ◌⊎◌, inl, inr, Bool, true, false, IsTrue, List, [], ◌∷◌, take, Option, None, Some, refl, append-nil, arith}
use Rattle.std.proofs.Math.Bool.{Bool-set}
use Rattle.std.proofs.lemmas.Bool.{or_cases, or_left}
use Rattle.acl_model.specs.Effects.{state_after}
use Rattle.acl_model.specs.Roles.{AreSources, IsSource}
use Rattle.acl_model.specs.Roles.IsSource.{Itself, Through}
use Rattle.acl_model.specs.Rows.{lists}
use Rattle.acl_model.specs.State.{State, opening}
use Rattle.acl_names.proofs.SameAuth.{equal_from_same_auth, same_auth_itself}
use Rattle.acl_names.specs.AuthId.{same_auth}
use Rattle.acl_names.specs.declared.auth.AuthId.{AuthId}
use Rattle.acl_names.specs.declared.caller.Caller.{Caller}
use Rattle.acl_stmt.specs.Entries.{is_entry}
use Rattle.acl_stmt.specs.declared.entry.Entry.{Entry}
use Rattle.acl_stmt.specs.declared.limit.Limit.{Limit}
use Rattle.acl_stmt.specs.declared.statement.Statement.{Statement}
use Rattle.book_log.specs.Histories.{entry_if, entry_of}
use Rattle.legal_runs.specs.Commands.{Answer, Command}
use Rattle.legal_runs.specs.Commands.Answer.{NoMemory}
use Rattle.legal_runs.specs.Lines.{IsGivenUp, IsWhole}
use Rattle.legal_runs.specs.Rules.{IsActing, IsReading}
use Rattle.legal_runs.specs.Sessions.{Who, after_line, views}
use Rattle.line_answers.specs.declared.answer.Answer.{Answer as ToldAnswer}
use Rattle.line_answers.specs.declared.points.Points.{Points}
use Rattle.priv_map.specs.declared.acting.Acting.{Acting}
use Rattle.serial_runs.specs.Serial.Doing.{Looks}
use Rattle.session_check.specs.Session.{acting_of, login_reading, schema_reading}
use Rattle.session_check.specs.declared.session.SessionState.{SessionState}
use Rattle.session_rules.specs.Answers.{told_answer}
use Rattle.session_rules.specs.Setting.{rules, serial_setting}
use Rattle.script_run.specs.Lines.{IsEntryOf}
use Rattle.script_run.specs.Seats.{IsSound, IsSoundIf, IsSoundState, Steps, session_in, who_of}
use Rattle.script_run.specs.declared.seat.Seat.{Seat}

-- a line that does nothing at all
pub does_nothing : (entries : List Entry) (caller : ℕ) (old new : Seat) (command : Command) (answer : Answer) (told : ToldAnswer) →
    IsWhole serial_setting (views entries (session_in old) []) (session_in old) command [] answer → told_answer command answer ≡ Some told →
    session_in new ≡ after_line command [] answer (session_in old) → new.calls ≡ old.calls → IsSound new entries →
    Steps entries entries caller old new command told
does_nothing entries caller old new command answer told whole told_is session calls sound = record {
  doing = Looks 0;
  answer = answer;
  replied = tt;
  whole = whole;
  told_is = told_is;
  quiet = λ is. refl;
  more = sym (append-nil entries);
  session = session;
  calls = omega (arith, calls);
  sound = sound;
  opened = λ opened. opened;
}

-- a line that found no memory before it did anything
pub gives_up : (who : Option Who) (command : Command) → IsGivenUp who command [] NoMemory
gives_up who command = record { seen = []; parts_are = refl; reads = inr (refl, refl); answer_is = inl refl }

pub sound_of : (entries : List Entry) (old : Seat) (st : SessionState) → old.state ≡ Some st → IsSound old entries → IsSoundState st old entries
sound_of entries old st is sound = subst (λ o. IsSoundIf o old entries) is sound.state

-- where a session's state and points stay, it stays sound
pub state_as : (state : Option SessionState) (one other : Seat) (entries : List Entry) → one.points ≡ other.points → IsSoundIf state one entries →
    IsSoundIf state other entries
state_as None one other entries points sound = tt
state_as (Some st) one other entries points sound =
    record { stands = sound.stands; points_are = sound.points_are ∙ points; no_roles = sound.no_roles }

-- ---- sources

only_itself : (account source : AuthId) → IsTrue (lists (account ∷ []) source) → source ≡ account
only_itself account source is = by (or_cases (same_auth source account) false is)
  where
    by : (same_auth source account ≡ true) ⊎ (false ≡ true) → source ≡ account
    by (inl own) = equal_from_same_auth source account own
    by (inr never) = absurd (cc)

itself_listed : (account : AuthId) → IsTrue (lists (account ∷ []) account)
itself_listed account = or_left (same_auth account account) false (same_auth_itself account)

from_source : (state : State) (account : AuthId) (roles : List AuthId) (source : AuthId) → roles ≡ [] → IsSource state account roles source →
    IsTrue (lists (account ∷ []) source)
from_source state account roles source none Itself = itself_listed account
from_source state account roles source none (Through role other active granted path) =
    let never : lists [] role ≡ true = ap (λ these. lists these role) (sym none) ∙ active in absurd (cc)

-- without roles the account is the one source
pub alone : (state : State) (account : AuthId) (roles : List AuthId) → roles ≡ [] → AreSources state account roles (account ∷ [])
alone state account roles none source = (
  λ is. subst (λ who. IsSource state account roles who) (sym (only_itself account source is)) Itself,
  from_source state account roles source none,
)

-- ---- readings

pub login_read : (entries : List Entry) (old : Seat) (st : SessionState) → IsSoundState st old entries →
    IsReading serial_setting (who_of st) (take old.points.global entries) (login_reading st entries)
login_read entries old st sound = record {
  state_is = ap (λ (points : Points). state_after (take points.global entries) opening) sound.points_are;
  sources_are = alone _ (acting_of st).account (acting_of st).roles sound.no_roles;
}

pub schema_read : (entries : List Entry) (old : Seat) (st : SessionState) → IsSoundState st old entries →
    IsReading serial_setting (who_of st) (take old.points.schema entries) (schema_reading st entries)
schema_read entries old st sound = record {
  state_is = ap (λ (points : Points). state_after (take points.schema entries) opening) sound.points_are;
  sources_are = alone _ (acting_of st).account (acting_of st).roles sound.no_roles;
}

-- what is stored acts by the copies of what was read
pub acts : (entries : List Entry) (old : Seat) (st : SessionState) → IsSoundState st old entries →
    IsActing serial_setting (who_of st) (take old.points.global entries) (take old.points.schema entries) (acting_of st)
acts entries old st sound = record {
  at_login = login_reading st entries;
  at_use = schema_reading st entries;
  login_is = login_read entries old st sound;
  use_is = schema_read entries old st sound;
  account_is = refl;
  roles_are = refl;
  current_is = refl;
  is_read = sound.stands.read;
}

-- ---- entries

abbrev entry_with : Caller → ℕ → AuthId → (limits : List Limit) (statement : Statement) → IsTrue (is_entry limits statement) → Entry
entry_with caller number by limits statement lawful =
    record { caller = caller; number = number; by = by; limits = limits; statement = statement; legal = lawful }

same_entry : (caller : Caller) (number : ℕ) (by : AuthId) (limits more : List Limit) (statement other : Statement) → limits ≡ more → statement ≡ other →
    (lawful : IsTrue (is_entry limits statement)) (legal : IsTrue (is_entry more other)) →
    entry_with caller number by limits statement lawful ≡ entry_with caller number by more other legal
same_entry caller number by limits more statement other limits_are statement_is lawful legal =
    subst (λ (these : List Limit). (legal : IsTrue (is_entry these other)) → entry_with caller number by limits statement lawful ≡ entry_with caller number by these other legal)
    limits_are
    (subst (λ (this : Statement). (legal : IsTrue (is_entry limits this)) → entry_with caller number by limits statement lawful ≡ entry_with caller number by limits this legal)
    statement_is (λ legal. ap (λ l. entry_with caller number by limits statement l) (Bool-set (is_entry limits statement) true lawful legal)))
    legal

made_if : (caller number : ℕ) (account : AuthId) (statement : Statement) (entry : Entry) (lawful : Bool) (is : is_entry [] statement ≡ lawful) → lawful ≡ true →
    IsEntryOf caller number account statement entry → entry_if caller number account [] statement lawful is ≡ Some entry
made_if caller number account statement entry false is kept of = absurd (cc)
made_if caller number account statement entry true is kept of =
    let names : entry_with (record { 0 = caller }) number account [] statement is ≡ entry_with entry.caller entry.number entry.by [] statement is =
    λ i. entry_with (record { 0 = sym of.caller_is i }) (sym of.number_is i) (sym of.by_is i) [] statement is in
    ap Some (names ∙ same_entry entry.caller entry.number entry.by [] entry.limits statement entry.statement (sym of.no_limits) (sym of.statement_is) is entry.legal)

-- the entry that is stored is the one that the log has
pub made_entry : (caller number : ℕ) (acting : Acting) (statement : Statement) (entry : Entry) → IsTrue (is_entry [] statement) →
    IsEntryOf caller number acting.account statement entry → entry_of rules caller number acting statement ≡ Some entry
made_entry caller number acting statement entry kept of =
    made_if caller number acting.account statement entry (is_entry [] statement) refl kept of

some_if : (caller number : ℕ) (account : AuthId) (statement : Statement) (lawful : Bool) (is : is_entry [] statement ≡ lawful) → lawful ≡ true →
    (entry : Entry) × (entry_if caller number account [] statement lawful is ≡ Some entry)
some_if caller number account statement false is kept = absurd (cc)
some_if caller number account statement true is kept = (entry_with (record { 0 = caller }) number account [] statement is, refl)

pub some_entry_of : (caller number : ℕ) (acting : Acting) (statement : Statement) → IsTrue (is_entry [] statement) →
    (entry : Entry) × (entry_of rules caller number acting statement ≡ Some entry)
some_entry_of caller number acting statement kept = some_if caller number acting.account statement (is_entry [] statement) refl kept
