-- Lines run one after the other are a whole run.
use Rattle.std.proofs.Common.{◌≡◌, ◌∙◌, ℕ, zero, suc, ◌<◌, Bool, true, false, cond, ◌==◌, List, [], ◌∷◌, ◌++◌, length, refl, sym, ap, subst}
use Rattle.std.proofs.lemmas.Bool.{eqb-true}
use Rattle.std.proofs.lemmas.List.Elements.{All-head, All-tail}
use Rattle.std.specs.List.{All}
use Rattle.legal_runs.specs.Core.{Event, IsRun, Worker, worker_of}
use Rattle.legal_runs.specs.Core.Act.{Book}
use Rattle.legal_runs.specs.Core.Event.{By, Publish}
use Rattle.legal_runs.specs.Report.{AreOf, HaveAnswered, IsWholeRun, commands_of}
use Rattle.legal_runs.specs.Rules.{Setting}
use Rattle.serial_runs.proofs.Workers.{none_begun, other_worker, own_worker}
use Rattle.serial_runs.specs.Serial.{Doing, Step, after_doing, after_looks, commands_for, events_of, is_told, script_by, told_if}
use Rattle.serial_runs.specs.Serial.Doing.{Calls, Looks}

looks_are_of : (sessions session looks : ℕ) (events : List Event) → session < sessions → AreOf sessions events → AreOf sessions (after_looks session looks events)
looks_are_of sessions session zero events order are_of = are_of
looks_are_of sessions session (suc looks) events order are_of = (looks_are_of sessions session looks events order are_of, order)

told_are_of : (on : Setting) (sessions session : ℕ) (told : Bool) (events : List Event) → session < sessions → AreOf sessions events →
    AreOf sessions (told_if on session told events)
told_are_of on sessions session false events order are_of = are_of
told_are_of on sessions session true events order are_of = (are_of, order)

doing_are_of : (on : Setting) (sessions session : ℕ) (doing : Doing) (events : List Event) → session < sessions → AreOf sessions events →
    AreOf sessions (after_doing on session doing events)
doing_are_of on sessions session (Looks looks) events order are_of = looks_are_of sessions session looks events order are_of
doing_are_of on sessions session (Calls chosen call reply) events order are_of =
    told_are_of on sessions session (is_told reply) (Publish ∷ By session (Book chosen call reply) ∷ events) order (are_of, order)

events_are_of : (on : Setting) (sessions : ℕ) (steps : List Step) → All (λ (step : Step). step.session < sessions) steps → AreOf sessions (events_of on steps)
events_are_of on sessions [] all = tt
events_are_of on sessions (step ∷ steps) all =
    let order : step.session < sessions = All-head (λ (step : Step). step.session < sessions) step steps all in (
      doing_are_of on sessions step.session step.doing (events_of on steps) order
          (events_are_of on sessions steps (All-tail (λ (step : Step). step.session < sessions) step steps all)),
      order,
    )

same_commands : (on : Setting) (session : ℕ) (steps : List Step) → commands_for session steps ≡ commands_of (worker_of on session (events_of on steps)).turns
same_commands on session [] = refl
same_commands on session (step ∷ steps) = by (step.session == session) refl (same_commands on session steps)
  where
    by : (is_own : Bool) → (step.session == session) ≡ is_own → commands_for session steps ≡ commands_of (worker_of on session (events_of on steps)).turns →
        cond is_own (commands_for session steps ++ step.command ∷ []) (commands_for session steps) ≡ commands_of (worker_of on session (events_of on (step ∷ steps))).turns
    by false apart before = before ∙ ap (λ (worker : Worker). commands_of worker.turns) (sym (other_worker on steps step session apart))
    by true same before =
        let here : step.session ≡ session = eqb-true step.session session same in
        ap (λ commands. commands ++ step.command ∷ []) (before ∙ ap (λ (who : ℕ). commands_of (worker_of on who (events_of on steps)).turns) (sym here))
        ∙ sym (ap (λ (worker : Worker). commands_of worker.turns) (own_worker on steps step))
        ∙ ap (λ (who : ℕ). commands_of (worker_of on who (events_of on (step ∷ steps))).turns) here

have_answered : (on : Setting) (first count : ℕ) (steps : List Step) → HaveAnswered on first (script_by first count steps) (events_of on steps)
have_answered on first zero steps = tt
have_answered on first (suc count) steps = (
  record { commands_are = same_commands on first steps; none_begun = none_begun on first steps },
  have_answered on (suc first) count steps,
)

script_length : (first count : ℕ) (steps : List Step) → length (script_by first count steps) ≡ count
script_length first zero steps = refl
script_length first (suc count) steps = ap suc (script_length (suc first) count steps)

pub serial_is_whole : (on : Setting) (sessions : ℕ) (steps : List Step) → All (λ (step : Step). step.session < sessions) steps →
    IsRun on (events_of on steps) → IsWholeRun on (script_by 0 sessions steps) (events_of on steps)
serial_is_whole on sessions steps all run = record {
  is_run = run;
  are_of = subst (λ (count : ℕ). AreOf count (events_of on steps)) (sym (script_length 0 sessions steps)) (events_are_of on sessions steps all);
  answered = have_answered on 0 sessions steps;
}
