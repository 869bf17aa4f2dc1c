-- Runs of lines one after the other: runs of sessions in which each line sees all that is accepted before it, and what it has
-- accepted is published and told at once (MySQL 8.0 Reference Manual, "When Privilege Changes Take Effect").
use Rattle.std.specs.Prelude.{ℕ, zero, suc, Bool, true, false, ◌==◌, if◌then◌else◌, List, [], ◌∷◌, ◌++◌, length, Option, Ok}
use Rattle.acl_names.specs.declared.auth.AuthId.{AuthId}
use Rattle.book_log.specs.Items.{Call, Reply}
use Rattle.book_log.specs.Items.Reply.{ToLogin, ToStatement}
use Rattle.legal_runs.specs.Commands.{Answer, Command}
use Rattle.legal_runs.specs.Core.{Event, history_of, session_after, worker_of}
use Rattle.legal_runs.specs.Core.Act.{Answers, Book, Read, Tell}
use Rattle.legal_runs.specs.Core.Event.{By, Publish}
use Rattle.legal_runs.specs.Rules.{Setting}
use Rattle.legal_runs.specs.Sessions.{Session}

-- what a line does: so many looks at what is published, or a call with its reply, at which a login chose this account
pub data Doing : Type 0 where
  Looks : ℕ → Doing
  Calls : Option AuthId → Call → Reply → Doing

-- an answered line, with its session and its number
pub record Step : Type 0 where
  pub session : ℕ
  pub line : ℕ
  pub command : Command
  pub doing : Doing
  pub answer : Answer

abbrev pub after_looks : ℕ → ℕ → List Event → List Event
after_looks session zero events = events
after_looks session (suc looks) events = By session Read ∷ after_looks session looks events

-- whether a session is told of a publication after this reply
abbrev pub is_told : Reply → Bool
is_told (ToStatement (Ok position)) = true
is_told (ToLogin (Ok login)) = true
is_told _ = false

-- the session is told of all that is accepted
abbrev pub told_if : Setting → ℕ → Bool → List Event → List Event
told_if on session true events = By session (Tell (length (history_of on events))) ∷ events
told_if on session false events = events

abbrev pub after_doing : Setting → ℕ → Doing → List Event → List Event
after_doing on session (Looks looks) events = after_looks session looks events
after_doing on session (Calls chosen call reply) events =
    told_if on session (is_told reply) (Publish ∷ By session (Book chosen call reply) ∷ events)

-- the events of these lines; both come with the newest first
abbrev pub events_of : Setting → List Step → List Event
events_of on [] = []
events_of on (step ∷ steps) = By step.session (Answers step.command step.answer) ∷ after_doing on step.session step.doing (events_of on steps)

-- a session after these lines
abbrev pub session_by : Setting → ℕ → List Step → Session
session_by on session steps = session_after (worker_of on session (events_of on steps)).turns

-- the commands of a session, the oldest first
abbrev pub commands_for : ℕ → List Step → List Command
commands_for session [] = []
commands_for session (step ∷ steps) = if step.session == session then commands_for session steps ++ step.command ∷ [] else commands_for session steps

-- the commands of each session from the first one on, for so many sessions
abbrev pub script_by : ℕ → ℕ → List Step → List (List Command)
script_by first zero steps = []
script_by first (suc count) steps = commands_for first steps ∷ script_by (suc first) count steps
