-- What a session knows never falls, and stays the front of the history.
use Rattle.std.proofs.Common.{◌≡◌, ◌∙◌, ℕ, ◌≤◌, Bool, true, false, cond, ◌==◌, List, [], ◌∷◌, ◌++◌, length, take, sym, ap, arith, append_assoc, append-nil}
use Rattle.std.proofs.lemmas.List.{take-append-le}
use Rattle.acl_stmt.specs.declared.entry.Entry.{Entry}
use Rattle.book_log.specs.Pasts.{log_of}
use Rattle.legal_runs.proofs.Later.{legal_fits}
use Rattle.legal_runs.proofs.Onward.{now-append, onward_more, onward_within}
use Rattle.legal_runs.proofs.Points.{line_now}
use Rattle.legal_runs.proofs.Working.{added, published_within, works}
use Rattle.legal_runs.specs.Core.{Act, Event, IsRun, Worker, acted, history_of, item_of, known, past_of, published, session_after, worker_of}
use Rattle.legal_runs.specs.Core.Act.{Answers, Book, Read, Tell}
use Rattle.legal_runs.specs.Core.Event.{By, Publish}
use Rattle.legal_runs.specs.Rules.{Setting}
use Rattle.legal_runs.specs.Sessions.{now_after}
use Rattle.legal_runs.specs.Sessions.Part.{Called, Heard, Saw}

pub known_within : (on : Setting) (session : ℕ) (events : List Event) → IsRun on events → known on session events ≤ published on events
known_within on session events run =
    onward_within (published on events) (session_after (worker_of on session events).turns).now (worker_of on session events).parts (works on session events run).onward

-- later events only add
pub goes_on : (on : Setting) (later events : List Event) → (more : List Entry) × (history_of on (later ++ events) ≡ history_of on events ++ more)
goes_on on [] events = ([], sym (append-nil (history_of on events)))
goes_on on (event ∷ later) events =
    let before = goes_on on later events in
    let more = added on (later ++ events) event in
    (before.0 ++ more.0, more.1 ∙ ap (λ entries. entries ++ more.0) before.1 ∙ append_assoc (history_of on events) before.0 more.0)

pub known_prefix : (on : Setting) (session : ℕ) (later events : List Event) → IsRun on events →
    take (known on session events) (history_of on (later ++ events)) ≡ take (known on session events) (history_of on events)
known_prefix on session later events run =
    let more = goes_on on later events in
    let known_few = known_within on session events run in
    let published_few = published_within on events in
    let within : known on session events ≤ length (history_of on events) = omega (arith, known_few, published_few) in
    ap (take (known on session events)) more.1 ∙ take-append-le (known on session events) (history_of on events) more.0 within

-- what the own event makes of what is known
own_known : (on : Setting) (events : List Event) (session caller : ℕ) (act : Act) → known on session events ≤ published on events →
    known on session events
    ≤ now_after (session_after (acted on events caller act (worker_of on session events)).turns).now (acted on events caller act (worker_of on session events)).parts
own_known on events session caller (Book chosen call reply) within =
    let worker : Worker = worker_of on session events in
    let same = now-append (session_after worker.turns).now worker.parts (Called (item_of caller (log_of (past_of events)) call reply) ∷ []) in omega (arith, same)
own_known on events session caller Read within =
    let worker : Worker = worker_of on session events in
    let same = now-append (session_after worker.turns).now worker.parts (Saw (published on events) ∷ []) in omega (arith, same, within)
own_known on events session caller (Tell told) within =
    let worker : Worker = worker_of on session events in
    let same = now-append (session_after worker.turns).now worker.parts (Heard told ∷ []) in omega (arith, same)
own_known on events session caller (Answers command answer) within =
    let worker : Worker = worker_of on session events in
    let same = line_now command worker.parts answer (session_after worker.turns) in omega (arith, same)

pub known_onward : (on : Setting) (session : ℕ) (events : List Event) (event : Event) → IsRun on (event ∷ events) →
    known on session events ≤ known on session (event ∷ events)
known_onward on session events Publish run = omega arith
known_onward on session events (By caller act) run = by (caller == session)
  where
    by : (own : Bool) →
        known on session events
        ≤ now_after (session_after (cond own (acted on events caller act (worker_of on session events)) (worker_of on session events)).turns).now
        (cond own (acted on events caller act (worker_of on session events)) (worker_of on session events)).parts
    by true = own_known on events session caller act (known_within on session events run.0)
    by false = omega arith

-- what the session has read is no more than what it knows
pub read_within : (on : Setting) (session : ℕ) (events : List Event) → IsRun on events →
    ((session_after (worker_of on session events).turns).global ≤ known on session events)
    × ((session_after (worker_of on session events).turns).schema ≤ known on session events)
read_within on session events run =
    let working = works on session events run in
    let worker : Worker = worker_of on session events in
    let before = legal_fits on (history_of on events) worker.turns working.legal in
    let more = onward_more (published on events) (session_after worker.turns).now worker.parts working.onward in
    let global = before.fit.global in
    let schema = before.fit.schema in (omega (arith, global, more), omega (arith, schema, more))
