-- What sessions know after lines that are run one after the other.
use Rattle.std.proofs.Common.{◌≡◌, ℕ, zero, suc, ◌≤◌, Bool, true, false, List, ◌∷◌, length, ap, arith}
use Rattle.legal_runs.proofs.Known.{known_onward, known_within, read_within}
use Rattle.legal_runs.proofs.Working.{published_within}
use Rattle.legal_runs.specs.Core.{Event, IsRun, history_of, known}
use Rattle.legal_runs.specs.Core.Act.{Answers, Book, Read, Tell}
use Rattle.legal_runs.specs.Core.Event.{By, Publish}
use Rattle.legal_runs.specs.Rules.{Setting}
use Rattle.legal_runs.specs.Sessions.{Part, now_after}
use Rattle.serial_runs.proofs.Workers.{none_begun}
use Rattle.serial_runs.specs.Serial.{Doing, Step, after_doing, after_looks, events_of, is_told, session_by, told_if}
use Rattle.serial_runs.specs.Serial.Doing.{Calls, Looks}

-- between lines a session knows what it knew after the last one
known_between : (on : Setting) (session : ℕ) (steps : List Step) → known on session (events_of on steps) ≡ (session_by on session steps).now
known_between on session steps = ap (λ (parts : List Part). now_after (session_by on session steps).now parts) (none_begun on session steps)

pub knows_within : (on : Setting) (session : ℕ) (steps : List Step) → IsRun on (events_of on steps) →
    (session_by on session steps).now ≤ length (history_of on (events_of on steps))
knows_within on session steps run =
    let same = known_between on session steps in
    let few = known_within on session (events_of on steps) run in
    let within = published_within on (events_of on steps) in omega (arith, same, few, within)

pub has_read_within : (on : Setting) (session : ℕ) (steps : List Step) → IsRun on (events_of on steps) →
    ((session_by on session steps).global ≤ (session_by on session steps).now)
    × ((session_by on session steps).schema ≤ (session_by on session steps).now)
has_read_within on session steps run =
    let same = known_between on session steps in
    let read = read_within on session (events_of on steps) run in
    (omega (arith, same, read.0), omega (arith, same, read.1))

looks_onward : (on : Setting) (session caller looks : ℕ) (events : List Event) → IsRun on (after_looks caller looks events) →
    known on session events ≤ known on session (after_looks caller looks events)
looks_onward on session caller zero events run = omega arith
looks_onward on session caller (suc looks) events run =
    let before = looks_onward on session caller looks events run.0 in
    let last = known_onward on session (after_looks caller looks events) (By caller Read) run in omega (arith, before, last)

told_onward : (on : Setting) (session caller : ℕ) (told : Bool) (events : List Event) → IsRun on (told_if on caller told events) →
    known on session events ≤ known on session (told_if on caller told events)
told_onward on session caller false events run = omega arith
told_onward on session caller true events run = known_onward on session events (By caller (Tell (length (history_of on events)))) run

told_before : (on : Setting) (caller : ℕ) (told : Bool) (events : List Event) → IsRun on (told_if on caller told events) → IsRun on events
told_before on caller false events run = run
told_before on caller true events run = run.0

doing_onward : (on : Setting) (session caller : ℕ) (doing : Doing) (events : List Event) → IsRun on (after_doing on caller doing events) →
    known on session events ≤ known on session (after_doing on caller doing events)
doing_onward on session caller (Looks looks) events run = looks_onward on session caller looks events run
doing_onward on session caller (Calls chosen call reply) events run =
    let called : List Event = By caller (Book chosen call reply) ∷ events in
    let both : IsRun on (Publish ∷ called) = told_before on caller (is_told reply) (Publish ∷ called) run in
    let first = known_onward on session events (By caller (Book chosen call reply)) both.0 in
    let second = known_onward on session called Publish both in
    let third = told_onward on session caller (is_told reply) (Publish ∷ called) run in omega (arith, first, second, third)

pub knows_onward : (on : Setting) (session : ℕ) (step : Step) (steps : List Step) → IsRun on (events_of on (step ∷ steps)) →
    (session_by on session steps).now ≤ (session_by on session (step ∷ steps)).now
knows_onward on session step steps run =
    let done : List Event = after_doing on step.session step.doing (events_of on steps) in
    let first = doing_onward on session step.session step.doing (events_of on steps) run.0 in
    let second = known_onward on session done (By step.session (Answers step.command step.answer)) run in
    let before = known_between on session steps in
    let after = known_between on session (step ∷ steps) in omega (arith, first, second, before, after)
