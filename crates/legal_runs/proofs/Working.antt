-- What a session has done so far is legal over the history so far.
use Rattle.std.proofs.Common.{◌≡◌, ◌∙◌, inl, inr, ℕ, ◌≤◌, max, Bool, true, false, cond, ◌==◌, List, [], ◌∷◌, ◌++◌, length, refl, sym, ap, subst, arith, eq-eqb, append_assoc, append-nil, length-append}
use Rattle.std.proofs.lemmas.Bool.{eqb-true}
use Rattle.acl_stmt.specs.declared.entry.Entry.{Entry}
use Rattle.book_log.proofs.Grows.{history_more}
use Rattle.book_log.proofs.Numbers.{calls_more}
use Rattle.book_log.specs.Callers.{calls}
use Rattle.book_log.specs.Histories.{accepted_in, history}
use Rattle.book_log.specs.Items.{Item}
use Rattle.book_log.specs.Pasts.{log_of}
use Rattle.legal_runs.proofs.Later.{legal_later}
use Rattle.legal_runs.proofs.Onward.{calls_in-append, onward-append, onward_up, onward_within}
use Rattle.legal_runs.proofs.Points.{line_now}
use Rattle.legal_runs.specs.Commands.{Answer, Command}
use Rattle.legal_runs.specs.Core.{Act, Event, IsRun, MayAct, WasPublished, Worker, acted, history_of, item_of, met, past_of, published, session_after, worker_of}
use Rattle.legal_runs.specs.Core.Act.{Answers, Book, Read, Tell}
use Rattle.legal_runs.specs.Core.Event.{By, Publish}
use Rattle.legal_runs.specs.Lines.{IsWhole}
use Rattle.legal_runs.specs.Report.{AreLegal, IsOnward, items_of}
use Rattle.legal_runs.specs.Rules.{Setting}
use Rattle.legal_runs.specs.Sessions.{Session, calls_in, now_after, views}
use Rattle.legal_runs.specs.Sessions.Part.{Called, Heard, Saw}

-- an event adds to the history or leaves it
pub added : (on : Setting) (events : List Event) (event : Event) → (more : List Entry) × (history_of on (event ∷ events) ≡ history_of on events ++ more)
added on events Publish = ([], sym (append-nil (history_of on events)))
added on events (By caller (Book chosen call reply)) =
    let item : Item = item_of caller (log_of (past_of events)) call reply in
    (accepted_in on.origin.rules item, history_more on.origin.rules on.origin.base (log_of (past_of events)) item)
added on events (By caller Read) = ([], sym (append-nil (history_of on events)))
added on events (By caller (Tell told)) = ([], sym (append-nil (history_of on events)))
added on events (By caller (Answers command answer)) = ([], sym (append-nil (history_of on events)))

longer : (on : Setting) (events : List Event) (event : Event) → length (history_of on events) ≤ length (history_of on (event ∷ events))
longer on events event =
    let more = added on events event in
    let same = ap length more.1 in
    let sum = length-append (history_of on events) more.0 in omega (arith, same, sum)

history_nothing : (on : Setting) → history_of on [] ≡ on.origin.base
unfolding history
history_nothing on = append-nil on.origin.base

base_within : (on : Setting) → length on.origin.base ≤ length (history_of on [])
base_within on = let same = ap length (history_nothing on) in omega (arith, same)

pub published_within : (on : Setting) (events : List Event) → published on events ≤ length (history_of on events)
published_within on [] = base_within on
published_within on (Publish ∷ events) = omega arith
published_within on (By caller act ∷ events) =
    let before = published_within on events in let more = longer on events (By caller act) in omega (arith, before, more)

pub told_within : (on : Setting) (events : List Event) (told : ℕ) → WasPublished on events told → told ≤ published on events
told_within on [] told was = omega arith
told_within on (Publish ∷ events) told (inl now) = omega arith
told_within on (Publish ∷ events) told (inr was) =
    let before = told_within on events told was in let within = published_within on events in omega (arith, before, within)
told_within on (By caller act ∷ events) told was = told_within on events told was

-- the answered lines are legal, the begun one goes onward up to what is published, and these items are those of its calls
pub record IsWorking (on : Setting) (entries : List Entry) (limit : ℕ) (items : List Item) (worker : Worker) : Type 0 where
  pub legal : AreLegal on entries worker.turns
  pub onward : IsOnward limit (session_after worker.turns).now worker.parts
  pub items_are : items ≡ items_of worker.turns ++ calls_in worker.parts

works_later : (on : Setting) (entries more : List Entry) (limit higher : ℕ) (items : List Item) (worker : Worker) → limit ≤ higher →
    IsWorking on entries limit items worker → IsWorking on (entries ++ more) higher items worker
works_later on entries more limit higher items worker order works = record {
  legal = legal_later on entries more worker.turns works.legal;
  onward = onward_up limit higher (session_after worker.turns).now worker.parts order works.onward;
  items_are = works.items_are;
}

works_called : (on : Setting) (entries : List Entry) (limit : ℕ) (items : List Item) (worker : Worker) (item : Item) →
    IsWorking on entries limit items worker → IsWorking on entries limit (items ++ item ∷ []) (met worker (Called item))
works_called on entries limit items worker item works = record {
  legal = works.legal;
  onward =
      onward-append limit (session_after worker.turns).now worker.parts (Called item ∷ []) works.onward
      (onward_within limit (session_after worker.turns).now worker.parts works.onward);
  items_are =
      ap (λ items. items ++ item ∷ []) works.items_are
      ∙ append_assoc (items_of worker.turns) (calls_in worker.parts) (item ∷ [])
      ∙ ap (λ items. items_of worker.turns ++ items) (sym (calls_in-append worker.parts (Called item ∷ [])));
}

works_saw : (on : Setting) (entries : List Entry) (limit : ℕ) (items : List Item) (worker : Worker) →
    IsWorking on entries limit items worker → IsWorking on entries limit items (met worker (Saw limit))
works_saw on entries limit items worker works =
    let within : now_after (session_after worker.turns).now worker.parts ≤ limit = onward_within limit (session_after worker.turns).now worker.parts works.onward in
    let here : limit ≤ limit = omega arith in
    record {
      legal = works.legal;
      onward = onward-append limit (session_after worker.turns).now worker.parts (Saw limit ∷ []) works.onward (within, here);
      items_are =
          works.items_are
          ∙ ap (λ items. items_of worker.turns ++ items) (sym (calls_in-append worker.parts (Saw limit ∷ []) ∙ append-nil (calls_in worker.parts)));
    }

works_heard : (on : Setting) (entries : List Entry) (limit told : ℕ) (items : List Item) (worker : Worker) → told ≤ limit →
    IsWorking on entries limit items worker → IsWorking on entries limit items (met worker (Heard told))
works_heard on entries limit told items worker order works =
    let within : now_after (session_after worker.turns).now worker.parts ≤ limit = onward_within limit (session_after worker.turns).now worker.parts works.onward in
    let both : max (now_after (session_after worker.turns).now worker.parts) told ≤ limit = omega arith in
    record {
      legal = works.legal;
      onward = onward-append limit (session_after worker.turns).now worker.parts (Heard told ∷ []) works.onward both;
      items_are =
          works.items_are
          ∙ ap (λ items. items_of worker.turns ++ items) (sym (calls_in-append worker.parts (Heard told ∷ []) ∙ append-nil (calls_in worker.parts)));
    }

works_answered : (on : Setting) (entries : List Entry) (limit : ℕ) (items : List Item) (worker : Worker) (command : Command) (answer : Answer) →
    limit ≤ length entries →
    IsWhole on (views entries (session_after worker.turns) worker.parts) (session_after worker.turns) command worker.parts answer →
    IsWorking on entries limit items worker →
    IsWorking on entries limit items (record { turns = record { command = command; parts = worker.parts; answer = answer } ∷ worker.turns; parts = [] })
works_answered on entries limit items worker command answer order whole works =
    let session : Session = session_after worker.turns in
    let within : now_after session.now worker.parts ≤ limit = onward_within limit session.now worker.parts works.onward in
    let now = line_now command worker.parts answer session in
    record {
      legal = (
        works.legal,
        record { whole = whole; onward = onward_up limit (length entries) session.now worker.parts order works.onward },
      );
      onward = omega (arith, now, within);
      items_are = works.items_are ∙ sym (append-nil (items_of worker.turns ++ calls_in worker.parts));
    }

eqb-same : (n : ℕ) → (n == n) ≡ true
eqb-same n = eq-eqb n n refl

-- what the session's own event makes of it
own_works : (on : Setting) (events : List Event) (caller : ℕ) (act : Act) → MayAct on events caller act →
    IsWorking on (history_of on events) (published on events) (calls caller (log_of (past_of events))) (worker_of on caller events) →
    IsWorking on (history_of on (By caller act ∷ events)) (published on events) (calls caller (log_of (past_of (By caller act ∷ events))))
    (acted on events caller act (worker_of on caller events))
own_works on events caller (Book chosen call reply) may works =
    let item : Item = item_of caller (log_of (past_of events)) call reply in
    let more = added on events (By caller (Book chosen call reply)) in
    let worker : Worker = worker_of on caller events in
    let here : published on events ≤ published on events = omega arith in
    let own : (caller == caller) ≡ true = eqb-same caller in
    let called : IsWorking on (history_of on events) (published on events) (calls caller (log_of (past_of events)) ++ item ∷ []) (met worker (Called item)) =
    works_called on (history_of on events) (published on events) (calls caller (log_of (past_of events))) worker item works in
    let grown = works_later on (history_of on events) more.0 (published on events) (published on events)
    (calls caller (log_of (past_of events)) ++ item ∷ []) (met worker (Called item)) here called in
    let one_more : calls caller (log_of (past_of events) ++ item ∷ []) ≡ calls caller (log_of (past_of events)) ++ item ∷ [] =
    calls_more caller (log_of (past_of events)) item ∙ ap (λ t. calls caller (log_of (past_of events)) ++ cond t (item ∷ []) []) own in
    subst (λ (items : List Item). IsWorking on (history_of on (By caller (Book chosen call reply) ∷ events)) (published on events) items (met worker (Called item)))
    (sym one_more)
    (subst (λ (entries : List Entry). IsWorking on entries (published on events) (calls caller (log_of (past_of events)) ++ item ∷ []) (met worker (Called item)))
    (sym more.1) grown)
own_works on events caller Read may works =
    works_saw on (history_of on events) (published on events) (calls caller (log_of (past_of events))) (worker_of on caller events) works
own_works on events caller (Tell told) may works =
    works_heard on (history_of on events) (published on events) told (calls caller (log_of (past_of events))) (worker_of on caller events)
    (told_within on events told may) works
own_works on events caller (Answers command answer) may works =
    works_answered on (history_of on events) (published on events) (calls caller (log_of (past_of events))) (worker_of on caller events) command answer
    (published_within on events) may works

-- another session's event leaves its calls
others_calls : (on : Setting) (events : List Event) (session caller : ℕ) (act : Act) → (caller == session) ≡ false →
    calls session (log_of (past_of (By caller act ∷ events))) ≡ calls session (log_of (past_of events))
others_calls on events session caller (Book chosen call reply) other =
    let item : Item = item_of caller (log_of (past_of events)) call reply in
    calls_more session (log_of (past_of events)) item ∙ ap (λ t. calls session (log_of (past_of events)) ++ cond t (item ∷ []) []) other
    ∙ append-nil (calls session (log_of (past_of events)))
others_calls on events session caller Read other = refl
others_calls on events session caller (Tell told) other = refl
others_calls on events session caller (Answers command answer) other = refl

others_works : (on : Setting) (events : List Event) (session caller : ℕ) (act : Act) (worker : Worker) → (caller == session) ≡ false →
    IsWorking on (history_of on events) (published on events) (calls session (log_of (past_of events))) worker →
    IsWorking on (history_of on (By caller act ∷ events)) (published on events) (calls session (log_of (past_of (By caller act ∷ events)))) worker
others_works on events session caller act worker other works =
    let more = added on events (By caller act) in
    let here : published on events ≤ published on events = omega arith in
    let grown = works_later on (history_of on events) more.0 (published on events) (published on events) (calls session (log_of (past_of events))) worker here works in
    subst (λ (items : List Item). IsWorking on (history_of on (By caller act ∷ events)) (published on events) items worker)
    (sym (others_calls on events session caller act other))
    (subst (λ (entries : List Entry). IsWorking on entries (published on events) (calls session (log_of (past_of events))) worker) (sym more.1) grown)

pub works : (on : Setting) (session : ℕ) (events : List Event) → IsRun on events →
    IsWorking on (history_of on events) (published on events) (calls session (log_of (past_of events))) (worker_of on session events)
works on session [] run = record { legal = tt; onward = omega arith; items_are = refl }
works on session (Publish ∷ events) run =
    let before = works on session events run.0 in record {
      legal = before.legal;
      onward =
          onward_up (published on events) (length (history_of on events)) (session_after (worker_of on session events).turns).now (worker_of on session events).parts
          (published_within on events) before.onward;
      items_are = before.items_are;
    }
works on session (By caller act ∷ events) run = by (caller == session) refl (works on session events run.0)
  where
    by : (own : Bool) → (caller == session) ≡ own →
        IsWorking on (history_of on events) (published on events) (calls session (log_of (past_of events))) (worker_of on session events) →
        IsWorking on (history_of on (By caller act ∷ events)) (published on events) (calls session (log_of (past_of (By caller act ∷ events))))
        (cond own (acted on events caller act (worker_of on session events)) (worker_of on session events))
    by true own before =
        let same : session ≡ caller = sym (eqb-true caller session own) in
        subst (λ (who : ℕ). IsWorking on (history_of on events) (published on events) (calls who (log_of (past_of events))) (worker_of on who events) →
        IsWorking on (history_of on (By caller act ∷ events)) (published on events) (calls who (log_of (past_of (By caller act ∷ events))))
        (acted on events caller act (worker_of on who events)))
        (sym same) (own_works on events caller act run.1) before
    by false other before = others_works on events session caller act (worker_of on session events) other before
