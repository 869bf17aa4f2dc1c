-- How what is stored of a session stands for it, and what a line makes of both.
use Rattle.std.specs.Prelude.{◌≡◌, ◌≤◌, ℕ, ◌+◌, List, [], ◌∷◌, ◌++◌, length, Option, None, Some}
use Rattle.std.specs.Option.{option_map}
use Rattle.acl_model.specs.Acceptance.{IsAccepted, IsRefused}
use Rattle.acl_stmt.specs.declared.entry.Entry.{Entry}
use Rattle.acl_stmt.specs.declared.refusal.Refusal.{Refusal}
use Rattle.legal_runs.specs.Commands.{Answer, Command}
use Rattle.legal_runs.specs.Commands.Answer.{NoMemory}
use Rattle.legal_runs.specs.Lines.{IsWhole}
use Rattle.legal_runs.specs.Sessions.{Session, Who, after_line, fresh, views}
use Rattle.line_answers.specs.declared.answer.Answer.{Answer as ToldAnswer}
use Rattle.line_answers.specs.declared.answer.Answer.TheVariants.{Done, Refused}
use Rattle.line_answers.specs.declared.answer.LineRefusal.TheVariants.{NoMemory as WantOfMemory, Statement as OfStatement}
use Rattle.priv_map.specs.Readings.{IsReadAt, current_of, reading_of}
use Rattle.serial_runs.specs.Parts.{calls_by}
use Rattle.serial_runs.specs.Serial.{Doing}
use Rattle.serial_runs.specs.Serial.Doing.{Looks}
use Rattle.session_check.specs.Session.{StandsFor, acting_of, points_of}
use Rattle.session_check.specs.declared.session.SessionState.{SessionState}
use Rattle.session_rules.specs.Answers.{told_answer}
use Rattle.session_rules.specs.Setting.{serial_setting}
use Rattle.script_run.specs.Lines.{IsOpen, IsRepliedAfter, parts_for, state_now, stored_for}
use Rattle.script_run.specs.declared.login.Entered.{Entered}
use Rattle.script_run.specs.declared.seat.Seat.{Seat}

abbrev pub who_of : SessionState → Who
who_of state = record { account = (acting_of state).account; roles = (acting_of state).roles; current = current_of (acting_of state) }

-- the session that is stored so
abbrev pub session_in : Seat → Session
session_in seat = record { who = option_map who_of seat.state; global = seat.points.global; schema = seat.points.schema; now = seat.seen }

-- the copies of a connected session are those of what it read, at these points
pub record IsSoundState (state : SessionState) (seat : Seat) (entries : List Entry) : Type 0 where
  pub stands : StandsFor state entries
  pub points_are : points_of state ≡ seat.points
  pub no_roles : (acting_of state).roles ≡ []

abbrev pub IsSoundIf : Option SessionState → Seat → List Entry → Type 0
IsSoundIf None seat entries = Unit {0}
IsSoundIf (Some state) seat entries = IsSoundState state seat entries

-- what is stored of a session is sound where these statements are accepted
pub record IsSound (seat : Seat) (entries : List Entry) : Type 0 where
  pub state : IsSoundIf seat.state seat entries
  pub seen : seat.seen ≤ length entries

-- a line of the session with this number: what it did and its answer are by the rules, and so is what is stored afterwards
pub record Steps (before after : List Entry) (caller : ℕ) (old new : Seat) (command : Command) (told : ToldAnswer) : Type 0 where
  pub doing : Doing
  pub answer : Answer
  pub replied : IsRepliedAfter before caller old.calls doing
  pub whole :
      IsWhole serial_setting (views after (session_in old) (parts_for before after caller old.calls doing)) (session_in old) command
      (parts_for before after caller old.calls doing) answer
  pub told_is : told_answer command answer ≡ Some told
  pub quiet : answer ≡ NoMemory → doing ≡ Looks 0
  pub more : after ≡ before ++ stored_for caller old.calls doing
  pub session : session_in new ≡ after_line command (parts_for before after caller old.calls doing) answer (session_in old)
  pub calls : new.calls ≡ old.calls + calls_by doing
  pub sound : IsSound new after
  pub opened : IsOpen (state_now before) → IsOpen (state_now after)

-- the same, where nothing is accepted
abbrev pub OnlyAnswers : List Entry → Seat → Seat → Command → ToldAnswer → Type 0
OnlyAnswers entries old new command told = (caller : ℕ) → Steps entries entries caller old new command told

-- a login to the account after these statements
pub record IsEntered (entries : List Entry) (entered : Entered) : Type 0 where
  pub account : (acting_of entered.state).account ≡ entered.shown
  pub roles : (acting_of entered.state).roles ≡ []
  pub no_schema : (acting_of entered.state).current ≡ None
  pub points : points_of entered.state ≡ record { global = length entries; schema = length entries }
  pub read :
      IsReadAt (acting_of entered.state) (reading_of (state_now entries) (acting_of entered.state))
      (reading_of (state_now entries) (acting_of entered.state))
  pub stands : StandsFor entered.state entries

-- what is stored of a session that has entered
pub record IsSeated (entries : List Entry) (entered : Entered) (old new : Seat) : Type 0 where
  pub state_is : new.state ≡ Some entered.state
  pub points_are : new.points ≡ record { global = length entries; schema = length entries }
  pub seen_is : new.seen ≡ length entries
  pub calls_are : new.calls ≡ old.calls + 1

-- a session before its first line
pub record IsFresh (seat : Seat) : Type 0 where
  pub session : session_in seat ≡ fresh
  pub none : seat.state ≡ None
  pub no_calls : seat.calls ≡ 0

-- a statement of root's: it is accepted as the next, or refused with exactly this, or memory ran out
pub data Tries (before after : List Entry) (old new : Seat) (entry : Entry) (told : ToldAnswer) : Type 0 where
  Accepts : IsAccepted (state_now before) entry → after ≡ before ++ entry ∷ [] → told ≡ Done (length before + 1)
      → new ≡ record { state = old.state; points = old.points; seen = length before + 1; calls = old.calls + 1 } → Tries before after old new entry told
  Refuses : (why : Refusal) → IsRefused (state_now before) entry why → after ≡ before → told ≡ Refused (OfStatement why)
      → new ≡ record { state = old.state; points = old.points; seen = old.seen; calls = old.calls + 1 } → Tries before after old new entry told
  Lacks : after ≡ before → told ≡ Refused WantOfMemory → new ≡ old → Tries before after old new entry told
