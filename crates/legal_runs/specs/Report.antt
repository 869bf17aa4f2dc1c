-- Legal reports: what they say is right over the one history in which they end.
use Rattle.std.specs.Prelude.{◌≡◌, ℕ, suc, ◌+◌, max, ◌<◌, ◌≤◌, true, List, [], ◌∷◌, ◌++◌, length, All, Option, Some, None}
use Rattle.std.specs.Option.{option_map}
use Rattle.acl_stmt.specs.declared.entry.Entry.{Entry}
use Rattle.book_log.specs.Callers.{AreNumberedFrom, calls}
use Rattle.book_log.specs.Histories.{history}
use Rattle.book_log.specs.Items.{Item, Login}
use Rattle.book_log.specs.Logs.{IsLegalLog, with_end}
use Rattle.book_log.specs.Pasts.{log_of}
use Rattle.legal_runs.specs.Commands.{Answer, Command}
use Rattle.legal_runs.specs.Commands.Answer.{Done, NoMemory, NotConnected}
use Rattle.legal_runs.specs.Commands.Command.{Connect, Issue}
use Rattle.legal_runs.specs.Core.{Event, IsRun, Turn, past_of, session_after, worker_of}
use Rattle.legal_runs.specs.Core.Event.{By, Publish}
use Rattle.legal_runs.specs.Lines.{IsWhole}
use Rattle.legal_runs.specs.Rules.{Setting}
use Rattle.legal_runs.specs.Sessions.{Part, Session, calls_in, login_in, views}
use Rattle.legal_runs.specs.Sessions.Part.{Called, Heard, Saw}

-- an answer, with what the session had read and what it knew after the line
pub record LineAnswer : Type 0 where
  pub answer : Answer
  pub global : ℕ
  pub schema : ℕ
  pub now : ℕ

pub record Report : Type 0 where
  pub log : List Item
  pub sessions : List (List LineAnswer)

-- what the session knows never gets less, and is never more than the limit
abbrev pub IsOnward : ℕ → ℕ → List Part → Type 0
IsOnward limit now [] = now ≤ limit
IsOnward limit now (Called item ∷ parts) = IsOnward limit now parts
IsOnward limit now (Saw seen ∷ parts) = (now ≤ seen) × IsOnward limit seen parts
IsOnward limit now (Heard told ∷ parts) = IsOnward limit (max now told) parts

-- the line is whole over the final history, and its session went onward
pub record IsLegalTurn (on : Setting) (entries : List Entry) (session : Session) (turn : Turn) : Type 0 where
  pub whole : IsWhole on (views entries session turn.parts) session turn.command turn.parts turn.answer
  pub onward : IsOnward (length entries) session.now turn.parts

abbrev pub AreLegal : Setting → List Entry → List Turn → Type 0
AreLegal on entries [] = Unit {0}
AreLegal on entries (turn ∷ turns) = AreLegal on entries turns × IsLegalTurn on entries (session_after turns) turn

abbrev pub commands_of : List Turn → List Command
commands_of [] = []
commands_of (turn ∷ turns) = commands_of turns ++ turn.command ∷ []

abbrev pub items_of : List Turn → List Item
items_of [] = []
items_of (turn ∷ turns) = items_of turns ++ calls_in turn.parts

abbrev pub answer_at : Answer → Session → LineAnswer
answer_at answer session = record { answer = answer; global = session.global; schema = session.schema; now = session.now }

abbrev pub answers_of : List Turn → List LineAnswer
answers_of [] = []
answers_of (turn ∷ turns) = answers_of turns ++ answer_at turn.answer (session_after (turn ∷ turns)) ∷ []

-- a session's lines have these answers, and its calls are these items, numbered from 0
pub record IsLegalSession (on : Setting) (entries : List Entry) (items : List Item) (commands : List Command) (answers : List LineAnswer) : Type 0 where
  pub turns : List Turn
  pub commands_are : commands ≡ commands_of turns
  pub answers_are : answers ≡ answers_of turns
  pub items_are : items ≡ items_of turns
  pub numbered : AreNumberedFrom 0 items
  pub are_legal : AreLegal on entries turns

abbrev pub AreLegalSessions : Setting → List Entry → List Item → ℕ → List (List Command) → List (List LineAnswer) → Type 0
AreLegalSessions on entries log first [] [] = Unit {0}
AreLegalSessions on entries log first (commands ∷ script) (answers ∷ sessions) =
    IsLegalSession on entries (calls first log) commands answers × AreLegalSessions on entries log (suc first) script sessions
AreLegalSessions on entries log first _ _ = ⊥

-- a report on a script, which has the commands of each session
pub record IsLegalReport (on : Setting) (script : List (List Command)) (report : Report) : Type 0 where
  pub log_is_legal : IsLegalLog (with_end None on.origin) report.log
  pub callers : All (λ (item : Item). item.caller < length script) report.log
  pub sessions : AreLegalSessions on (history on.origin.rules on.origin.base report.log) report.log 0 script report.sessions

abbrev pub sessions_of : Setting → ℕ → List (List Command) → List Event → List (List LineAnswer)
sessions_of on first [] events = []
sessions_of on first (commands ∷ script) events = answers_of (worker_of on first events).turns ∷ sessions_of on (suc first) script events

abbrev pub report_of : Setting → List (List Command) → List Event → Report
report_of on script events = record { log = log_of (past_of events); sessions = sessions_of on 0 script events }

-- only these sessions act
abbrev pub AreOf : ℕ → List Event → Type 0
AreOf sessions [] = Unit {0}
AreOf sessions (Publish ∷ events) = AreOf sessions events
AreOf sessions (By caller act ∷ events) = AreOf sessions events × (caller < sessions)

-- the session has answered its lines, and begun no other
pub record HasAnswered (on : Setting) (session : ℕ) (commands : List Command) (events : List Event) : Type 0 where
  pub commands_are : commands ≡ commands_of (worker_of on session events).turns
  pub none_begun : (worker_of on session events).parts ≡ []

abbrev pub HaveAnswered : Setting → ℕ → List (List Command) → List Event → Type 0
HaveAnswered on first [] events = Unit {0}
HaveAnswered on first (commands ∷ script) events = HasAnswered on first commands events × HaveAnswered on (suc first) script events

-- the events of a script, of which each line was answered whole
pub record IsWholeRun (on : Setting) (script : List (List Command)) (events : List Event) : Type 0 where
  pub is_run : IsRun on events
  pub are_of : AreOf (length script) events
  pub answered : HaveAnswered on 0 script events

-- of how many statements a session was told by a line: those that a login was let in by, or those up to one that was published
abbrev pub told_of : Command → List Item → Answer → Option ℕ
told_of (Connect knock) items answer = option_map (λ (login : Login). login.position) (login_in items)
told_of (Issue statement) items (Done position true) = Some position
told_of _ items answer = None

-- how many calls a line makes: a login makes one, and a statement of a connected session, where memory was found
abbrev pub call_count : Command → Answer → ℕ
call_count (Connect knock) NoMemory = 0
call_count (Connect knock) _ = 1
call_count (Issue statement) NotConnected = 0
call_count (Issue statement) NoMemory = 0
call_count (Issue statement) _ = 1
call_count _ _ = 0

-- how many calls these lines make, by their answers
abbrev pub calls_of : List Command → List LineAnswer → ℕ
calls_of (command ∷ commands) (line ∷ lines) = call_count command line.answer + calls_of commands lines
calls_of _ _ = 0
