-- The events of a run, in any order among sessions (MySQL 8.0 Reference Manual, "When Privilege Changes Take Effect").
use Rattle.std.specs.Prelude.{◌≡◌, ◌⊎◌, ℕ, ◌==◌, if◌then◌else◌, List, [], ◌∷◌, ◌++◌, length, Option, None}
use Rattle.acl_names.specs.declared.auth.AuthId.{AuthId}
use Rattle.acl_stmt.specs.declared.entry.Entry.{Entry}
use Rattle.book_log.specs.Callers.{calls}
use Rattle.book_log.specs.Items.{Call, Item, Reply}
use Rattle.book_log.specs.Logs.{IsReply, entries_at, with_end}
use Rattle.book_log.specs.Pasts.{Past, log_of}
use Rattle.legal_runs.specs.Commands.{Answer, Command}
use Rattle.legal_runs.specs.Lines.{IsWhole}
use Rattle.legal_runs.specs.Rules.{Setting}
use Rattle.legal_runs.specs.Sessions.{Part, Session, after_line, fresh, now_after, views}
use Rattle.legal_runs.specs.Sessions.Part.{Called, Heard, Saw}

-- what a session does: a call with its reply, at which a login chose this account; a look at what is published; being told that
-- so much is published; the answer that ends a line
pub data Act : Type 0 where
  Book : Option AuthId → Call → Reply → Act
  Read : Act
  Tell : ℕ → Act
  Answers : Command → Answer → Act

-- all that is accepted is published, or a session does something
pub data Event : Type 0 where
  Publish : Event
  By : ℕ → Act → Event

-- a line that was answered
pub record Turn : Type 0 where
  pub command : Command
  pub parts : List Part
  pub answer : Answer

-- the answered lines of a session, the newest first, and the parts of the line that it has begun
pub record Worker : Type 0 where
  pub turns : List Turn
  pub parts : List Part

abbrev pub session_after : List Turn → Session
session_after [] = fresh
session_after (turn ∷ turns) = after_line turn.command turn.parts turn.answer (session_after turns)

-- the next call of a caller
abbrev pub item_of : ℕ → List Item → Call → Reply → Item
item_of caller log call reply = record { caller = caller; number = length (calls caller log); call = call; reply = reply }

abbrev pub logged : Past → Event → Past
logged past Publish = past
logged past (By caller (Book chosen call reply)) = record { item = item_of caller (log_of past) call reply; chosen = chosen } ∷ past
logged past (By caller Read) = past
logged past (By caller (Tell told)) = past
logged past (By caller (Answers command answer)) = past

-- the items so far; events come with the newest first
abbrev pub past_of : List Event → Past
past_of [] = []
past_of (event ∷ events) = logged (past_of events) event

-- the accepted statements so far
abbrev pub history_of : Setting → List Event → List Entry
history_of on events = entries_at on.origin (past_of events)

abbrev pub length_after : ℕ → ℕ → Event → ℕ
length_after accepted before Publish = accepted
length_after accepted before (By caller act) = before

-- how many of them are published
abbrev pub published : Setting → List Event → ℕ
published on [] = length on.origin.base
published on (event ∷ events) = length_after (length (history_of on events)) (published on events) event

-- so many were published at some time
abbrev pub WasPublished : Setting → List Event → ℕ → Type 0
WasPublished on [] told = told ≡ length on.origin.base
WasPublished on (Publish ∷ events) told = (told ≡ length (history_of on events)) ⊎ WasPublished on events told
WasPublished on (By caller act ∷ events) told = WasPublished on events told

abbrev pub met : Worker → Part → Worker
met worker part = record { turns = worker.turns; parts = worker.parts ++ part ∷ [] }

abbrev pub acted : Setting → List Event → ℕ → Act → Worker → Worker
acted on events caller (Book chosen call reply) worker = met worker (Called (item_of caller (log_of (past_of events)) call reply))
acted on events caller Read worker = met worker (Saw (published on events))
acted on events caller (Tell told) worker = met worker (Heard told)
acted on events caller (Answers command answer) worker =
    record { turns = record { command = command; parts = worker.parts; answer = answer } ∷ worker.turns; parts = [] }

-- what a session has done
abbrev pub worker_of : Setting → ℕ → List Event → Worker
worker_of on session [] = record { turns = []; parts = [] }
worker_of on session (Publish ∷ events) = worker_of on session events
worker_of on session (By caller act ∷ events) =
    if caller == session then acted on events caller act (worker_of on session events) else worker_of on session events

-- a reply is that of the rules, a session is told of what was published, and a line is answered that is whole
abbrev pub MayAct : Setting → List Event → ℕ → Act → Type 0
MayAct on events caller (Book chosen call reply) =
    IsReply (with_end None on.origin) (past_of events) (record { item = item_of caller (log_of (past_of events)) call reply; chosen = chosen })
MayAct on events caller Read = Unit {0}
MayAct on events caller (Tell told) = WasPublished on events told
MayAct on events caller (Answers command answer) =
    IsWhole on (views (history_of on events) (session_after (worker_of on caller events).turns) (worker_of on caller events).parts)
    (session_after (worker_of on caller events).turns) command (worker_of on caller events).parts answer

abbrev pub MayHappen : Setting → List Event → Event → Type 0
MayHappen on events Publish = Unit {0}
MayHappen on events (By caller act) = MayAct on events caller act

abbrev pub IsRun : Setting → List Event → Type 0
IsRun on [] = Unit {0}
IsRun on (event ∷ events) = IsRun on events × MayHappen on events event

-- how many statements a session knows, within a line too
abbrev pub known : Setting → ℕ → List Event → ℕ
known on session events = now_after (session_after (worker_of on session events).turns).now (worker_of on session events).parts
