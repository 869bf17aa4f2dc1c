-- What lines run one after the other make of their sessions.
use Rattle.std.proofs.Common.{◌≡◌, ◌∙◌, inl, ℕ, zero, suc, Bool, true, false, cond, ◌==◌, List, [], ◌∷◌, ◌++◌, length, Option, refl, sym, ap, subst, append_assoc, append-nil}
use Rattle.std.proofs.lemmas.Bool.{eq-eqb, eqb-true}
use Rattle.acl_names.specs.declared.auth.AuthId.{AuthId}
use Rattle.book_log.specs.Items.{Call, Reply}
use Rattle.book_log.specs.Pasts.{log_of}
use Rattle.legal_runs.specs.Core.{Act, Event, IsRun, MayAct, Worker, acted, history_of, item_of, past_of, published, session_after, worker_of}
use Rattle.legal_runs.specs.Core.Act.{Answers, Book, Read, Tell}
use Rattle.legal_runs.specs.Core.Event.{By, Publish}
use Rattle.legal_runs.specs.Lines.{IsWhole}
use Rattle.legal_runs.specs.Rules.{Setting}
use Rattle.legal_runs.specs.Sessions.{Part, after_line, views}
use Rattle.legal_runs.specs.Sessions.Part.{Called, Heard, Saw}
use Rattle.serial_runs.specs.Parts.{looked_parts, parts_by, told_part}
use Rattle.serial_runs.specs.Serial.{Doing, Step, after_doing, after_looks, events_of, is_told, session_by, told_if}
use Rattle.serial_runs.specs.Serial.Doing.{Calls, Looks}

-- what a session's own event makes of it
own : (on : Setting) (events : List Event) (session : ℕ) (act : Act) →
    worker_of on session (By session act ∷ events) ≡ acted on events session act (worker_of on session events)
own on events session act =
    ap (λ t. cond t (acted on events session act (worker_of on session events)) (worker_of on session events)) (eq-eqb session session refl)

others : (on : Setting) (events : List Event) (session other : ℕ) (act : Act) → (session == other) ≡ false →
    worker_of on other (By session act ∷ events) ≡ worker_of on other events
others on events session other act apart =
    ap (λ t. cond t (acted on events session act (worker_of on other events)) (worker_of on other events)) apart

abbrev pub with_parts : Worker → List Part → Worker
with_parts worker parts = record { turns = worker.turns; parts = worker.parts ++ parts }

same_published : (on : Setting) (session looks : ℕ) (events : List Event) → published on (after_looks session looks events) ≡ published on events
same_published on session zero events = refl
same_published on session (suc looks) events = same_published on session looks events

one_more : (worker : Worker) (parts : List Part) (part : Part) →
    ◌≡◌ {A = Worker} (with_parts (with_parts worker parts) (part ∷ [])) (with_parts worker (parts ++ part ∷ []))
one_more worker parts part = λ i. record { turns = worker.turns; parts = append_assoc worker.parts parts (part ∷ []) i }

with_none : (worker : Worker) → worker ≡ with_parts worker []
with_none worker = λ i. record { turns = worker.turns; parts = sym (append-nil worker.parts) i }

looked : (on : Setting) (session looks : ℕ) (events : List Event) →
    worker_of on session (after_looks session looks events) ≡ with_parts (worker_of on session events) (looked_parts (published on events) looks)
looked on session zero events = with_none (worker_of on session events)
looked on session (suc looks) events =
    own on (after_looks session looks events) session Read
    ∙ ap (λ worker. with_parts worker (Saw (published on (after_looks session looks events)) ∷ [])) (looked on session looks events)
    ∙ one_more (worker_of on session events) (looked_parts (published on events) looks) (Saw (published on (after_looks session looks events)))
    ∙ ap (λ seen. with_parts (worker_of on session events) (looked_parts (published on events) looks ++ Saw seen ∷ [])) (same_published on session looks events)

called : (on : Setting) (session : ℕ) (chosen : Option AuthId) (call : Call) (reply : Reply) (told : Bool) (events : List Event) →
    worker_of on session (told_if on session told (Publish ∷ By session (Book chosen call reply) ∷ events))
    ≡ with_parts (worker_of on session events)
    (Called (item_of session (log_of (past_of events)) call reply) ∷ told_part (length (history_of on (By session (Book chosen call reply) ∷ events))) told)
called on session chosen call reply false events = own on events session (Book chosen call reply)
called on session chosen call reply true events =
    own on (Publish ∷ By session (Book chosen call reply) ∷ events) session (Tell (length (history_of on (By session (Book chosen call reply) ∷ events))))
    ∙ ap (λ worker. with_parts worker (Heard (length (history_of on (By session (Book chosen call reply) ∷ events))) ∷ [])) (own on events session (Book chosen call reply))
    ∙ one_more (worker_of on session events) (Called (item_of session (log_of (past_of events)) call reply) ∷ []) (Heard (length (history_of on (By session (Book chosen call reply) ∷ events))))

did : (on : Setting) (session : ℕ) (doing : Doing) (events : List Event) →
    worker_of on session (after_doing on session doing events) ≡ with_parts (worker_of on session events) (parts_by on session events doing)
did on session (Looks looks) events = looked on session looks events
did on session (Calls chosen call reply) events = called on session chosen call reply (is_told reply) events

others_looked : (on : Setting) (session other looks : ℕ) (events : List Event) → (session == other) ≡ false →
    worker_of on other (after_looks session looks events) ≡ worker_of on other events
others_looked on session other zero events apart = refl
others_looked on session other (suc looks) events apart =
    others on (after_looks session looks events) session other Read apart ∙ others_looked on session other looks events apart

others_called : (on : Setting) (session other : ℕ) (chosen : Option AuthId) (call : Call) (reply : Reply) (told : Bool) (events : List Event) →
    (session == other) ≡ false →
    worker_of on other (told_if on session told (Publish ∷ By session (Book chosen call reply) ∷ events)) ≡ worker_of on other events
others_called on session other chosen call reply false events apart = others on events session other (Book chosen call reply) apart
others_called on session other chosen call reply true events apart =
    others on (Publish ∷ By session (Book chosen call reply) ∷ events) session other (Tell (length (history_of on (By session (Book chosen call reply) ∷ events)))) apart
    ∙ others on events session other (Book chosen call reply) apart

others_did : (on : Setting) (session other : ℕ) (doing : Doing) (events : List Event) → (session == other) ≡ false →
    worker_of on other (after_doing on session doing events) ≡ worker_of on other events
others_did on session other (Looks looks) events apart = others_looked on session other looks events apart
others_did on session other (Calls chosen call reply) events apart = others_called on session other chosen call reply (is_told reply) events apart

-- a step leaves the other sessions
pub other_worker : (on : Setting) (steps : List Step) (step : Step) (other : ℕ) → (step.session == other) ≡ false →
    worker_of on other (events_of on (step ∷ steps)) ≡ worker_of on other (events_of on steps)
other_worker on steps step other apart =
    others on (after_doing on step.session step.doing (events_of on steps)) step.session other (Answers step.command step.answer) apart
    ∙ others_did on step.session other step.doing (events_of on steps) apart

-- what its own session has done by it
abbrev pub answered_worker : Setting → List Step → Step → Worker
answered_worker on steps step = record {
  turns =
      record {
        command = step.command;
        parts = (worker_of on step.session (events_of on steps)).parts ++ parts_by on step.session (events_of on steps) step.doing;
        answer = step.answer;
      }
      ∷ (worker_of on step.session (events_of on steps)).turns;
  parts = [];
}

pub own_worker : (on : Setting) (steps : List Step) (step : Step) →
    worker_of on step.session (events_of on (step ∷ steps)) ≡ answered_worker on steps step
own_worker on steps step =
    own on (after_doing on step.session step.doing (events_of on steps)) step.session (Answers step.command step.answer)
    ∙ ap (acted on (after_doing on step.session step.doing (events_of on steps)) step.session (Answers step.command step.answer))
    (did on step.session step.doing (events_of on steps))

none_begun_if : (on : Setting) (steps : List Step) (step : Step) (session : ℕ) (is_own : Bool) → (step.session == session) ≡ is_own →
    (worker_of on session (events_of on steps)).parts ≡ [] → (worker_of on session (events_of on (step ∷ steps))).parts ≡ []
none_begun_if on steps step session false apart none = ap (λ (worker : Worker). worker.parts) (other_worker on steps step session apart) ∙ none
none_begun_if on steps step session true same none =
    let here : step.session ≡ session = eqb-true step.session session same in
    ap (λ (who : ℕ). (worker_of on who (events_of on (step ∷ steps))).parts) (sym here) ∙ ap (λ (worker : Worker). worker.parts) (own_worker on steps step)

-- between lines none is begun
pub none_begun : (on : Setting) (session : ℕ) (steps : List Step) → (worker_of on session (events_of on steps)).parts ≡ []
none_begun on session [] = refl
none_begun on session (step ∷ steps) = none_begun_if on steps step session (step.session == session) refl (none_begun on session steps)

-- the parts of a step are those of its line
pub line_parts : (on : Setting) (steps : List Step) (step : Step) →
    (worker_of on step.session (events_of on steps)).parts ++ parts_by on step.session (events_of on steps) step.doing
    ≡ parts_by on step.session (events_of on steps) step.doing
line_parts on steps step = ap (λ parts. parts ++ parts_by on step.session (events_of on steps) step.doing) (none_begun on step.session steps)

pub other_session : (on : Setting) (steps : List Step) (step : Step) (other : ℕ) → (step.session == other) ≡ false →
    session_by on other (step ∷ steps) ≡ session_by on other steps
other_session on steps step other apart = ap (λ (worker : Worker). session_after worker.turns) (other_worker on steps step other apart)

pub own_session : (on : Setting) (steps : List Step) (step : Step) →
    session_by on step.session (step ∷ steps)
    ≡ after_line step.command (parts_by on step.session (events_of on steps) step.doing) step.answer (session_by on step.session steps)
own_session on steps step =
    ap (λ (worker : Worker). session_after worker.turns) (own_worker on steps step)
    ∙ ap (λ parts. after_line step.command parts step.answer (session_by on step.session steps)) (line_parts on steps step)

-- what a line may do
abbrev pub MayDo : Setting → ℕ → List Event → Doing → Type 0
MayDo on session events (Looks looks) = Unit {0}
MayDo on session events (Calls chosen call reply) = MayAct on events session (Book chosen call reply)

-- a line that is whole, after these
pub record IsStep (on : Setting) (steps : List Step) (step : Step) : Type 0 where
  pub may : MayDo on step.session (events_of on steps) step.doing
  pub whole :
      IsWhole on
      (views (history_of on (after_doing on step.session step.doing (events_of on steps))) (session_by on step.session steps)
      (parts_by on step.session (events_of on steps) step.doing))
      (session_by on step.session steps) step.command (parts_by on step.session (events_of on steps) step.doing) step.answer

looks_run : (on : Setting) (session looks : ℕ) (events : List Event) → IsRun on events → IsRun on (after_looks session looks events)
looks_run on session zero events run = run
looks_run on session (suc looks) events run = (looks_run on session looks events run, tt)

told_run : (on : Setting) (session : ℕ) (chosen : Option AuthId) (call : Call) (reply : Reply) (told : Bool) (events : List Event) → IsRun on events →
    MayAct on events session (Book chosen call reply) → IsRun on (told_if on session told (Publish ∷ By session (Book chosen call reply) ∷ events))
told_run on session chosen call reply false events run may = ((run, may), tt)
told_run on session chosen call reply true events run may = (((run, may), tt), inl refl)

doing_run : (on : Setting) (session : ℕ) (doing : Doing) (events : List Event) → IsRun on events → MayDo on session events doing →
    IsRun on (after_doing on session doing events)
doing_run on session (Looks looks) events run may = looks_run on session looks events run
doing_run on session (Calls chosen call reply) events run may = told_run on session chosen call reply (is_told reply) events run may

-- a run with one line more
pub run_more : (on : Setting) (steps : List Step) (step : Step) → IsRun on (events_of on steps) → IsStep on steps step → IsRun on (events_of on (step ∷ steps))
run_more on steps step run is_step =
    let events : List Event = events_of on steps in
    let after : List Event = after_doing on step.session step.doing events in
    let worker : Worker = with_parts (worker_of on step.session events) (parts_by on step.session events step.doing) in
    let parts : worker.parts ≡ parts_by on step.session events step.doing = line_parts on steps step in
    let whole : IsWhole on (views (history_of on after) (session_after worker.turns) worker.parts) (session_after worker.turns) step.command worker.parts step.answer =
    subst (λ (these : List Part). IsWhole on (views (history_of on after) (session_by on step.session steps) these) (session_by on step.session steps) step.command these step.answer)
    (sym parts) is_step.whole in
    let done : MayAct on after step.session (Answers step.command step.answer) =
    subst (λ (w : Worker). IsWhole on (views (history_of on after) (session_after w.turns) w.parts) (session_after w.turns) step.command w.parts step.answer)
    (sym (did on step.session step.doing events)) whole in
    (doing_run on step.session step.doing events run is_step.may, done)
