-- The report of a whole run is legal.
use Rattle.std.proofs.Common.{◌≡◌, ◌∙◌, ℕ, suc, ◌+◌, ◌<◌, Bool, true, false, cond, ◌==◌, List, [], ◌∷◌, ◌++◌, length, refl, sym, ap, subst, arith, append-nil}
use Rattle.std.proofs.lemmas.Bool.{eqb-true}
use Rattle.std.proofs.lemmas.List.Elements.{All-nil, All-push}
use Rattle.std.specs.Prelude.{All, None}
use Rattle.book_log.proofs.Numbers.{calls_more}
use Rattle.book_log.specs.Callers.{AreNumberedFrom, calls}
use Rattle.book_log.specs.Items.{Call, Item, Reply}
use Rattle.book_log.specs.Logs.{IsLegalLog, IsLegalPast, with_end}
use Rattle.book_log.specs.Pasts.{log_of}
use Rattle.legal_runs.proofs.Working.{works}
use Rattle.legal_runs.specs.Commands.{Command}
use Rattle.legal_runs.specs.Core.{Event, IsRun, history_of, item_of, past_of, worker_of}
use Rattle.legal_runs.specs.Core.Act.{Answers, Book, Read, Tell}
use Rattle.legal_runs.specs.Core.Event.{By, Publish}
use Rattle.legal_runs.specs.Report.{AreLegalSessions, AreOf, HasAnswered, HaveAnswered, IsLegalReport, IsLegalSession, IsWholeRun, answers_of, items_of, report_of, sessions_of}
use Rattle.legal_runs.specs.Rules.{Setting}
use Rattle.legal_runs.specs.Sessions.{Part, calls_in}

legal_past : (on : Setting) (events : List Event) → IsRun on events → IsLegalPast (with_end None on.origin) (past_of events)
legal_past on [] run = tt
legal_past on (Publish ∷ events) run = legal_past on events run.0
legal_past on (By caller (Book chosen call reply) ∷ events) run = (legal_past on events run.0, run.1)
legal_past on (By caller Read ∷ events) run = legal_past on events run.0
legal_past on (By caller (Tell told) ∷ events) run = legal_past on events run.0
legal_past on (By caller (Answers command answer) ∷ events) run = legal_past on events run.0

log_is_legal : (on : Setting) (events : List Event) → IsRun on events → IsLegalLog (with_end None on.origin) (log_of (past_of events))
unfolding IsLegalLog
log_is_legal on events run = (past_of events, refl, legal_past on events run)

-- each caller is one of the sessions
are_callers : (sessions : ℕ) (events : List Event) → AreOf sessions events → All (λ (item : Item). item.caller < sessions) (log_of (past_of events))
are_callers sessions [] are_of = All-nil (λ (item : Item). item.caller < sessions)
are_callers sessions (Publish ∷ events) are_of = are_callers sessions events are_of
are_callers sessions (By caller (Book chosen call reply) ∷ events) are_of =
    All-push (λ (item : Item). item.caller < sessions) (log_of (past_of events)) (item_of caller (log_of (past_of events)) call reply)
    (are_callers sessions events are_of.0) are_of.1
are_callers sessions (By caller Read ∷ events) are_of = are_callers sessions events are_of.0
are_callers sessions (By caller (Tell told) ∷ events) are_of = are_callers sessions events are_of.0
are_callers sessions (By caller (Answers command answer) ∷ events) are_of = are_callers sessions events are_of.0

numbered_more : (first : ℕ) (items : List Item) (item : Item) → AreNumberedFrom first items → item.number ≡ first + length items →
    AreNumberedFrom first (items ++ item ∷ [])
numbered_more first [] item numbered is = (omega (arith, is), tt)
numbered_more first (earlier ∷ items) item numbered is = (numbered.0, numbered_more (suc first) items item numbered.1 (omega (arith, is)))

numbered_if : (session caller : ℕ) (log : List Item) (call : Call) (reply : Reply) (own : Bool) → (caller == session) ≡ own → AreNumberedFrom 0 (calls session log) →
    AreNumberedFrom 0 (calls session log ++ cond own (item_of caller log call reply ∷ []) [])
numbered_if session caller log call reply true own numbered =
    let same : caller ≡ session = eqb-true caller session own in
    let number : length (calls caller log) ≡ length (calls session log) = ap (λ who. length (calls who log)) same in
    numbered_more 0 (calls session log) (item_of caller log call reply) numbered (omega (arith, number))
numbered_if session caller log call reply false own numbered =
    subst (λ (items : List Item). AreNumberedFrom 0 items) (sym (append-nil (calls session log))) numbered

numbered : (session : ℕ) (events : List Event) → AreNumberedFrom 0 (calls session (log_of (past_of events)))
numbered session [] = tt
numbered session (Publish ∷ events) = numbered session events
numbered session (By caller (Book chosen call reply) ∷ events) =
    subst (λ (items : List Item). AreNumberedFrom 0 items)
    (sym (calls_more session (log_of (past_of events)) (item_of caller (log_of (past_of events)) call reply)))
    (numbered_if session caller (log_of (past_of events)) call reply (caller == session) refl (numbered session events))
numbered session (By caller Read ∷ events) = numbered session events
numbered session (By caller (Tell told) ∷ events) = numbered session events
numbered session (By caller (Answers command answer) ∷ events) = numbered session events

session_is_legal : (on : Setting) (session : ℕ) (commands : List Command) (events : List Event) → IsRun on events → HasAnswered on session commands events →
    IsLegalSession on (history_of on events) (calls session (log_of (past_of events))) commands (answers_of (worker_of on session events).turns)
session_is_legal on session commands events run answered =
    let working = works on session events run in record {
      turns = (worker_of on session events).turns;
      commands_are = answered.commands_are;
      answers_are = refl;
      items_are =
          working.items_are ∙ ap (λ (parts : List Part). items_of (worker_of on session events).turns ++ calls_in parts) answered.none_begun
          ∙ append-nil (items_of (worker_of on session events).turns);
      numbered = numbered session events;
      are_legal = working.legal;
    }

sessions_are_legal : (on : Setting) (first : ℕ) (script : List (List Command)) (events : List Event) → IsRun on events → HaveAnswered on first script events →
    AreLegalSessions on (history_of on events) (log_of (past_of events)) first script (sessions_of on first script events)
sessions_are_legal on first [] events run answered = tt
sessions_are_legal on first (commands ∷ script) events run answered =
    (session_is_legal on first commands events run answered.0, sessions_are_legal on (suc first) script events run answered.1)

pub report_is_legal : (on : Setting) (script : List (List Command)) (events : List Event) → IsWholeRun on script events →
    IsLegalReport on script (report_of on script events)
report_is_legal on script events whole = record {
  log_is_legal = log_is_legal on events whole.is_run;
  callers = are_callers (length script) events whole.are_of;
  sessions = sessions_are_legal on 0 script events whole.is_run whole.answered;
}
