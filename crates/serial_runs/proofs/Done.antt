-- What lines run one after the other leave of the log and the history.
use Rattle.std.proofs.Common.{◌≡◌, ◌∙◌, ℕ, zero, suc, ◌+◌, Bool, true, false, cond, ◌==◌, List, [], ◌∷◌, ◌++◌, length, refl, sym, ap, arith, append-nil, length-append}
use Rattle.std.proofs.lemmas.Bool.{eq-eqb}
use Rattle.acl_stmt.specs.declared.entry.Entry.{Entry}
use Rattle.book_log.proofs.Grows.{history_more}
use Rattle.book_log.proofs.Numbers.{calls_more}
use Rattle.book_log.specs.Callers.{calls}
use Rattle.book_log.specs.Histories.{history, stored}
use Rattle.book_log.specs.Items.{Item}
use Rattle.book_log.specs.Pasts.{log_of}
use Rattle.legal_runs.specs.Core.{Event, history_of, item_of, past_of, published}
use Rattle.legal_runs.specs.Core.Act.{Book}
use Rattle.legal_runs.specs.Core.Event.{By, Publish}
use Rattle.legal_runs.specs.Rules.{Setting}
use Rattle.serial_runs.specs.Parts.{calls_by}
use Rattle.serial_runs.specs.Serial.{Doing, Step, after_doing, after_looks, events_of, is_told, told_if}
use Rattle.serial_runs.specs.Serial.Doing.{Calls, Looks}

-- what is accepted by a line
abbrev pub stored_by : Setting → ℕ → List Event → Doing → List Entry
stored_by on session events (Looks looks) = []
stored_by on session events (Calls chosen call reply) = stored on.origin.rules session (length (calls session (log_of (past_of events)))) call reply

-- the items that a line adds to the log
abbrev items_by : ℕ → List Event → Doing → List Item
items_by session events (Looks looks) = []
items_by session events (Calls chosen call reply) = item_of session (log_of (past_of events)) call reply ∷ []

looked_log : (session looks : ℕ) (events : List Event) → past_of (after_looks session looks events) ≡ past_of events
looked_log session zero events = refl
looked_log session (suc looks) events = looked_log session looks events

told_log : (on : Setting) (session : ℕ) (told : Bool) (events : List Event) → past_of (told_if on session told events) ≡ past_of events
told_log on session true events = refl
told_log on session false events = refl

log_after : (on : Setting) (session : ℕ) (doing : Doing) (events : List Event) →
    log_of (past_of (after_doing on session doing events)) ≡ log_of (past_of events) ++ items_by session events doing
log_after on session (Looks looks) events = ap log_of (looked_log session looks events) ∙ sym (append-nil (log_of (past_of events)))
log_after on session (Calls chosen call reply) events =
    ap log_of (told_log on session (is_told reply) (Publish ∷ By session (Book chosen call reply) ∷ events))

pub history_after : (on : Setting) (session : ℕ) (doing : Doing) (events : List Event) →
    history_of on (after_doing on session doing events) ≡ history_of on events ++ stored_by on session events doing
history_after on session (Looks looks) events =
    ap (λ past. history on.origin.rules on.origin.base (log_of past)) (looked_log session looks events) ∙ sym (append-nil (history_of on events))
history_after on session (Calls chosen call reply) events =
    ap (λ past. history on.origin.rules on.origin.base (log_of past)) (told_log on session (is_told reply) (Publish ∷ By session (Book chosen call reply) ∷ events))
    ∙ history_more on.origin.rules on.origin.base (log_of (past_of events)) (item_of session (log_of (past_of events)) call reply)

-- all that is accepted is published
looked_published : (on : Setting) (session looks : ℕ) (events : List Event) → published on events ≡ length (history_of on events) →
    published on (after_looks session looks events) ≡ length (history_of on (after_looks session looks events))
looked_published on session zero events all = all
looked_published on session (suc looks) events all = looked_published on session looks events all

told_published : (on : Setting) (session : ℕ) (told : Bool) (events : List Event) →
    published on (told_if on session told (Publish ∷ events)) ≡ length (history_of on (told_if on session told (Publish ∷ events)))
told_published on session true events = refl
told_published on session false events = refl

doing_published : (on : Setting) (session : ℕ) (doing : Doing) (events : List Event) → published on events ≡ length (history_of on events) →
    published on (after_doing on session doing events) ≡ length (history_of on (after_doing on session doing events))
doing_published on session (Looks looks) events all = looked_published on session looks events all
doing_published on session (Calls chosen call reply) events all = told_published on session (is_told reply) (By session (Book chosen call reply) ∷ events)

nothing_yet : (on : Setting) → length on.origin.base ≡ length (history_of on [])
unfolding history
nothing_yet on = ap length (sym (append-nil on.origin.base))

pub all_published : (on : Setting) (steps : List Step) → published on (events_of on steps) ≡ length (history_of on (events_of on steps))
all_published on [] = nothing_yet on
all_published on (step ∷ steps) = doing_published on step.session step.doing (events_of on steps) (all_published on steps)

own_calls_of : (session : ℕ) (doing : Doing) (events : List Event) →
    length (calls session (log_of (past_of events) ++ items_by session events doing)) ≡ length (calls session (log_of (past_of events))) + calls_by doing
own_calls_of session (Looks looks) events =
    let same = ap length (ap (calls session) (append-nil (log_of (past_of events)))) in omega (arith, same)
own_calls_of session (Calls chosen call reply) events =
    let item : Item = item_of session (log_of (past_of events)) call reply in
    let more : calls session (log_of (past_of events) ++ item ∷ []) ≡ calls session (log_of (past_of events)) ++ item ∷ [] =
    calls_more session (log_of (past_of events)) item
    ∙ ap (λ t. calls session (log_of (past_of events)) ++ cond t (item ∷ []) []) (eq-eqb session session refl) in
    let sum = length-append (calls session (log_of (past_of events))) (item ∷ []) in
    let same = ap length more in omega (arith, same, sum)

-- a line's own session has made its calls more
pub own_calls : (on : Setting) (session : ℕ) (doing : Doing) (events : List Event) →
    length (calls session (log_of (past_of (after_doing on session doing events)))) ≡ length (calls session (log_of (past_of events))) + calls_by doing
own_calls on session doing events = ap (λ log. length (calls session log)) (log_after on session doing events) ∙ own_calls_of session doing events

other_calls_of : (session other : ℕ) (doing : Doing) (events : List Event) → (session == other) ≡ false →
    calls other (log_of (past_of events) ++ items_by session events doing) ≡ calls other (log_of (past_of events))
other_calls_of session other (Looks looks) events apart = ap (calls other) (append-nil (log_of (past_of events)))
other_calls_of session other (Calls chosen call reply) events apart =
    let item : Item = item_of session (log_of (past_of events)) call reply in
    calls_more other (log_of (past_of events)) item
    ∙ ap (λ t. calls other (log_of (past_of events)) ++ cond t (item ∷ []) []) apart
    ∙ append-nil (calls other (log_of (past_of events)))

-- and each other one has made those that it had
pub other_calls : (on : Setting) (session other : ℕ) (doing : Doing) (events : List Event) → (session == other) ≡ false →
    calls other (log_of (past_of (after_doing on session doing events))) ≡ calls other (log_of (past_of events))
other_calls on session other doing events apart = ap (calls other) (log_after on session doing events) ∙ other_calls_of session other doing events apart
