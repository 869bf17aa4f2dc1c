-- Seats that stand for the sessions of a run stand for them with one line more.
use Rattle.std.proofs.Common.{◌≡◌, ◌≢◌, ◌∙◌, ap, sym, subst, ℕ, zero, suc, ◌+◌, ◌<◌, ◌≤◌, inl, inr, Bool, true, false, List, [], ◌∷◌, ◌++◌, length, map, get_or, set, Option, None, Some, Ok, Err, refl, arith, length-append, length-set}
use Rattle.std.proofs.lemmas.Bool.Decides.{eqb_tells}
use Rattle.std.proofs.lemmas.List.Elements.{All-nil, All-push}
use Rattle.std.specs.List.{All}
use Rattle.std.proofs.lemmas.List.{get_or-set_same, get_or-set_other, map-append}
use Rattle.acl_model.specs.Effects.{state_after}
use Rattle.acl_names.specs.declared.auth.AuthId.{AuthId}
use Rattle.acl_stmt.specs.declared.entry.Entry.{Entry}
use Rattle.book_log.specs.Callers.{calls}
use Rattle.book_log.specs.Histories.{history, some_entry, stored}
use Rattle.book_log.specs.Items.{Call, Reply}
use Rattle.book_log.specs.Items.Call.{Asks, Knocks}
use Rattle.book_log.specs.Items.Reply.{ToLogin, ToStatement}
use Rattle.book_log.specs.Logs.{IsReply, with_end}
use Rattle.book_log.specs.Pasts.{log_of}
use Rattle.legal_runs.specs.Commands.{Command}
use Rattle.legal_runs.specs.Core.{Event, IsRun, history_of, past_of}
use Rattle.legal_runs.specs.Core.Act.{Book}
use Rattle.legal_runs.specs.Core.Event.{By, Publish}
use Rattle.legal_runs.specs.Lines.{IsWhole}
use Rattle.legal_runs.specs.Sessions.{Part, Session, after_line, views}
use Rattle.legal_runs.specs.Sessions.Part.{Called}
use Rattle.line_answers.specs.declared.answer.Answer.{Answer as ToldAnswer}
use Rattle.line_answers.specs.declared.report.LineAnswer.{LineAnswer}
use Rattle.script_lines.specs.declared.lines.Line.{Line}
use Rattle.script_read.specs.declared.command.Command.{Command as Written}
use Rattle.serial_runs.proofs.Done.{all_published, history_after, other_calls, own_calls}
use Rattle.serial_runs.proofs.Workers.{IsStep, MayDo, other_session, own_session, run_more}
use Rattle.serial_runs.specs.Parts.{calls_by, looked_parts, parts_by, told_part}
use Rattle.serial_runs.specs.Serial.{Doing, Step, after_doing, events_of, is_told, session_by, told_if}
use Rattle.serial_runs.specs.Serial.Doing.{Calls, Looks}
use Rattle.session_rules.specs.Setting.{origin, rules, serial_setting}
use Rattle.script_run.proofs.Issuing.{sound_later}
use Rattle.script_run.proofs.Opens.{opens_at_first}
use Rattle.script_run.specs.Calls.{command_of}
use Rattle.script_run.specs.Lines.{IsOpen, IsRepliedAfter, parts_for, state_now, stored_for}
use Rattle.script_run.specs.Seats.{IsFresh, IsSound, IsSoundIf, Steps, session_in}
use Rattle.script_run.specs.Told.{AreTold, asked, asked_by, told_by}
use Rattle.script_run.specs.declared.seat.Seat.{Seat}

abbrev events_so_far : List Step → List Event
events_so_far steps = events_of serial_setting steps

abbrev calls_so_far : ℕ → List Step → ℕ
calls_so_far k steps = length (calls k (log_of (past_of (events_so_far steps))))

-- the seat stands for the session with this number
pub record Seated (steps : List Step) (entries : List Entry) (lines : ℕ) (k : ℕ) (seat : Seat) : Type 0 where
  pub session : session_in seat ≡ session_by serial_setting k steps
  pub calls : seat.calls ≡ calls_so_far k steps
  pub few : seat.calls ≤ lines
  pub sound : IsSound seat entries

-- after the first lines of a run: what they did so far, and what is stored of each session
pub record IsUnderWay (lines : List (Line Written)) (answers : List (ℕ × LineAnswer)) (sessions : ℕ) (seats : List Seat) (entries : List Entry) : Type 0 where
  pub steps : List Step
  pub asked_is : asked steps ≡ map asked_by lines
  pub are_told : AreTold steps answers
  pub is_run : IsRun serial_setting (events_of serial_setting steps)
  pub entries_are : entries ≡ history_of serial_setting (events_of serial_setting steps)
  pub few : length entries ≤ length lines
  pub opened : IsOpen (state_now entries)
  pub each : (k : ℕ) (d : Seat) → k < length seats → Seated steps entries (length lines) k (get_or seats k d)
  pub long : length seats ≡ sessions
  pub placed : All (λ (answer : ℕ × LineAnswer). answer.0 < sessions) answers

-- ---- a line by what is stored is a line of the run

may_do : (steps : List Step) (entries : List Entry) (k number : ℕ) (doing : Doing) → entries ≡ history_of serial_setting (events_so_far steps) →
    number ≡ calls_so_far k steps → IsRepliedAfter entries k number doing → MayDo serial_setting k (events_so_far steps) doing
may_do steps entries k number (Looks looks) entries_are calls_are replied = tt
may_do steps entries k number (Calls chosen call reply) entries_are calls_are replied =
    subst (λ (n : ℕ). IsReply (with_end None origin) (past_of (events_so_far steps)) (record { item = record { caller = k; number = n; call = call; reply = reply }; chosen = chosen }))
    calls_are (replied (past_of (events_so_far steps)) (sym entries_are))

same_history : (steps : List Step) (entries later : List Entry) (k number : ℕ) (doing : Doing) → entries ≡ history_of serial_setting (events_so_far steps) →
    number ≡ calls_so_far k steps → later ≡ entries ++ stored_for k number doing →
    later ≡ history_of serial_setting (after_doing serial_setting k doing (events_so_far steps))
same_history steps entries later k number (Looks looks) entries_are calls_are more =
    more ∙ ap (λ es. es ++ []) entries_are ∙ sym (history_after serial_setting k (Looks looks) (events_so_far steps))
same_history steps entries later k number (Calls chosen call reply) entries_are calls_are more =
    more ∙ ap (λ es. es ++ stored rules k number call reply) entries_are
    ∙ ap (λ n. history_of serial_setting (events_so_far steps) ++ stored rules k n call reply) calls_are
    ∙ sym (history_after serial_setting k (Calls chosen call reply) (events_so_far steps))

called_history : (steps : List Step) (k : ℕ) (chosen : Option AuthId) (call : Call) (reply : Reply) →
    history_of serial_setting (after_doing serial_setting k (Calls chosen call reply) (events_so_far steps))
    ≡ history_of serial_setting (By k (Book chosen call reply) ∷ events_so_far steps)
called_history steps k chosen call reply = by (is_told reply)
  where
    by : (told : Bool) →
        history_of serial_setting (told_if serial_setting k told (Publish ∷ By k (Book chosen call reply) ∷ events_so_far steps))
        ≡ history_of serial_setting (By k (Book chosen call reply) ∷ events_so_far steps)
    by true = refl
    by false = refl

same_parts : (steps : List Step) (entries later : List Entry) (k number : ℕ) (doing : Doing) → entries ≡ history_of serial_setting (events_so_far steps) →
    number ≡ calls_so_far k steps → later ≡ history_of serial_setting (after_doing serial_setting k doing (events_so_far steps)) →
    parts_for entries later k number doing ≡ parts_by serial_setting k (events_so_far steps) doing
same_parts steps entries later k number (Looks looks) entries_are calls_are later_is =
    ap (λ seen. looked_parts seen looks) (ap length entries_are ∙ sym (all_published serial_setting steps))
same_parts steps entries later k number (Calls chosen call reply) entries_are calls_are later_is =
    ap (λ (n : ℕ). Called (record { caller = k; number = n; call = call; reply = reply }) ∷ told_part (length later) (is_told reply)) calls_are
    ∙ ap (λ (es : List Entry). Called (record { caller = k; number = calls_so_far k steps; call = call; reply = reply }) ∷ told_part (length es) (is_told reply))
    (later_is ∙ called_history steps k chosen call reply)

is_step : (steps : List Step) (entries later : List Entry) (k line : ℕ) (old new : Seat) (command : Command) (told : ToldAnswer) (did : Steps entries later k old new command told) →
    entries ≡ history_of serial_setting (events_so_far steps) → session_in old ≡ session_by serial_setting k steps → old.calls ≡ calls_so_far k steps →
    IsStep serial_setting steps (record { session = k; line = line; command = command; doing = did.doing; answer = did.answer })
is_step steps entries later k line old new command told did entries_are session_is calls_are =
    let history_is = same_history steps entries later k old.calls did.doing entries_are calls_are did.more in
    let parts = same_parts steps entries later k old.calls did.doing entries_are calls_are history_is in
    record {
      may = may_do steps entries k old.calls did.doing entries_are calls_are did.replied;
      whole =
          subst (λ (es : List Entry). IsWhole serial_setting (views es (session_by serial_setting k steps) (parts_by serial_setting k (events_so_far steps) did.doing))
          (session_by serial_setting k steps) command (parts_by serial_setting k (events_so_far steps) did.doing) did.answer) history_is
          (subst (λ (ps : List Part). IsWhole serial_setting (views later (session_by serial_setting k steps) ps) (session_by serial_setting k steps) command ps did.answer) parts
          (subst (λ (s : Session). IsWhole serial_setting (views later s (parts_for entries later k old.calls did.doing)) s command (parts_for entries later k old.calls did.doing) did.answer)
          session_is did.whole));
    }

-- ---- how few there are

few_in : (made : Option Entry) → length (some_entry made) ≤ 1
few_in None = omega arith
few_in (Some entry) = omega arith

few_called : (k number : ℕ) (call : Call) (reply : Reply) → length (stored rules k number call reply) ≤ 1
few_called k number (Asks acting statement) (ToStatement (Ok position)) = few_in _
few_called k number (Asks acting statement) (ToStatement (Err why)) = omega arith
few_called k number (Asks acting statement) (ToLogin answer) = omega arith
few_called k number (Knocks knock) reply = omega arith

few_stored : (k number : ℕ) (doing : Doing) → length (stored_for k number doing) ≤ 1
few_stored k number (Looks looks) = omega arith
few_stored k number (Calls chosen call reply) = few_called k number call reply

few_calls : (doing : Doing) → calls_by doing ≤ 1
few_calls (Looks looks) = omega arith
few_calls (Calls chosen call reply) = omega arith

-- ---- one line more

more_lines : {A : Type 0} (xs : List A) (x : A) → length (xs ++ x ∷ []) ≡ length xs + 1
more_lines xs x = length-append xs (x ∷ [])

seated_as : (steps : List Step) (lines k : ℕ) (a b : Seat) (ones others : List Entry) → b ≡ a → others ≡ ones → Seated steps ones lines k a → Seated steps others lines k b
seated_as steps lines k a b ones others seat_is entries_are seated =
    subst (λ s. Seated steps others lines k s) (sym seat_is) (subst (λ es. Seated steps es lines k a) (sym entries_are) seated)

pub under_way_next : (lines : List (Line Written)) (answers : List (ℕ × LineAnswer)) (sessions : ℕ) (seats : List Seat) (entries later : List Entry) (line : Line Written) (old new : Seat) (told : ToldAnswer)
    → IsUnderWay lines answers sessions seats entries → line.session < length seats → old ≡ get_or seats line.session old
    → Steps entries later line.session old new (command_of line.command) told
    → IsUnderWay (lines ++ line ∷ []) (answers ++ told_by line.session line.number told new ∷ []) sessions (set seats line.session new) later
under_way_next lines answers sessions seats entries later line old new told way within read did =
    let steps = way.steps in
    let k = line.session in
    let step : Step = record { session = k; line = line.number; command = command_of line.command; doing = did.doing; answer = did.answer } in
    let was : Seated steps entries (length lines) k old = subst (λ s. Seated steps entries (length lines) k s) (sym read) (way.each k old within) in
    let history_is = same_history steps entries later k old.calls did.doing way.entries_are was.calls did.more in
    let parts = same_parts steps entries later k old.calls did.doing way.entries_are was.calls history_is in
    let long = more_lines lines line in
    let few_more = few_calls did.doing in
    let now : session_in new ≡ session_by serial_setting k (step ∷ steps) =
    did.session ∙ ap (λ s. after_line (command_of line.command) (parts_for entries later k old.calls did.doing) did.answer s) was.session
    ∙ ap (λ ps. after_line (command_of line.command) ps did.answer (session_by serial_setting k steps)) parts ∙ sym (own_session serial_setting steps step) in
    let own : Seated (step ∷ steps) later (length (lines ++ line ∷ [])) k new = record {
      session = now;
      calls = did.calls ∙ ap (λ n. n + calls_by did.doing) was.calls ∙ sym (own_calls serial_setting k did.doing (events_so_far steps));
      few = omega (arith, did.calls, was.few, few_more, long);
      sound = did.sound;
    } in
    record {
      steps = step ∷ steps;
      asked_is =
          ap (λ ls. ls ++ asked_by line ∷ []) way.asked_is ∙ sym (map-append asked_by lines (line ∷ []));
      are_told = (
        answers,
        told_by k line.number told new,
        refl,
        record {
          session_is = refl;
          line_is = refl;
          answer_is = did.told_is;
          global_is = ap (λ (s : Session). s.global) now;
          schema_is = ap (λ (s : Session). s.schema) now;
          now_is = ap (λ (s : Session). s.now) now;
          quiet = did.quiet;
        },
        way.are_told,
      );
      is_run = run_more serial_setting steps step way.is_run
          (is_step steps entries later k line.number old new (command_of line.command) told did way.entries_are was.session was.calls);
      entries_are = history_is;
      few = omega (arith, way.few, long, few_stored k old.calls did.doing, length-append entries (stored_for k old.calls did.doing), ap length did.more);
      opened = did.opened way.opened;
      each = λ j d below.
          elim (eqb_tells k j) [
            | inl here ↦
                let place : get_or (set seats k new) j d ≡ new = ap (λ i. get_or (set seats k new) i d) (sym here.1) ∙ get_or-set_same seats k new d within in
                seated_as (step ∷ steps) (length (lines ++ line ∷ [])) j new (get_or (set seats k new) j d) later later place refl
                (subst (λ i. Seated (step ∷ steps) later (length (lines ++ line ∷ [])) i new) here.1 own)
            | inr there ↦
                let apart : j ≢ k = λ e. there.1 (sym e) in
                let stood = way.each j d (omega (arith, length-set seats k new)) in
                let place : get_or (set seats k new) j d ≡ get_or seats j d = get_or-set_other seats k j new d apart in
                seated_as (step ∷ steps) (length (lines ++ line ∷ [])) j (get_or seats j d) (get_or (set seats k new) j d) (entries ++ stored_for k old.calls did.doing) later place did.more
                (record {
                  session = stood.session ∙ sym (other_session serial_setting steps step j there.0);
                  calls = stood.calls ∙ sym (ap length (other_calls serial_setting k j did.doing (events_so_far steps) there.0));
                  few = omega (arith, stood.few, long);
                  sound = sound_later (get_or seats j d) entries (stored_for k old.calls did.doing) stood.sound;
                })
          ];
      long = length-set seats k new ∙ way.long;
      placed = All-push (λ (answer : ℕ × LineAnswer). answer.0 < sessions) answers (told_by k line.number told new) way.placed (omega (arith, within, way.long));
    }

-- a session has made no more calls than there were lines
pub under_way_calls : (lines : List (Line Written)) (answers : List (ℕ × LineAnswer)) (sessions : ℕ) (seats : List Seat) (entries : List Entry) (k : ℕ) (old : Seat)
    → IsUnderWay lines answers sessions seats entries → k < length seats → old ≡ get_or seats k old → old.calls ≤ length lines
under_way_calls lines answers sessions seats entries k old way within read =
    (subst (λ s. Seated way.steps entries (length lines) k s) (sym read) (way.each k old within)).few

-- what is stored of a session is sound
pub under_way_sound : (lines : List (Line Written)) (answers : List (ℕ × LineAnswer)) (sessions : ℕ) (seats : List Seat) (entries : List Entry) (k : ℕ) (old : Seat)
    → IsUnderWay lines answers sessions seats entries → k < length seats → old ≡ get_or seats k old → IsSound old entries
under_way_sound lines answers sessions seats entries k old way within read =
    (subst (λ s. Seated way.steps entries (length lines) k s) (sym read) (way.each k old within)).sound

nothing_accepted : [] ≡ history_of serial_setting (events_of serial_setting [])
unfolding history
nothing_accepted = refl

-- before the first line
pub under_way_first : (sessions : ℕ) (seats : List Seat) (answers : List (ℕ × LineAnswer)) (entries : List Entry) → length seats ≡ sessions → All IsFresh seats → answers ≡ [] → entries ≡ []
    → IsUnderWay [] answers sessions seats entries
unfolding state_after
under_way_first sessions seats answers entries long fresh none nothing = record {
  steps = [];
  asked_is = refl;
  are_told = none;
  is_run = tt;
  entries_are = nothing ∙ nothing_accepted;
  few = omega (arith, ap length nothing);
  opened = subst (λ (es : List Entry). IsOpen (state_now es)) (sym nothing) opens_at_first;
  each = λ k d below. record {
    session = (fresh k d below).session;
    calls = (fresh k d below).no_calls;
    few = omega (arith, (fresh k d below).no_calls);
    sound = record {
      state = subst (λ o. IsSoundIf o (get_or seats k d) entries) (sym (fresh k d below).none) tt;
      seen = omega (arith, ap (λ (s : Session). s.now) (fresh k d below).session);
    };
  };
  long = long;
  placed = subst (All (λ (answer : ℕ × LineAnswer). answer.0 < sessions)) (sym none) (All-nil (λ (answer : ℕ × LineAnswer). answer.0 < sessions));
}

pub all_fresh : (seats : List Seat) (seat : Seat) → All IsFresh seats → IsFresh seat → All IsFresh (seats ++ seat ∷ [])
all_fresh [] seat all one zero d below = one
all_fresh [] seat all one (suc k) d below = absurd (omega arith)
all_fresh (first ∷ seats) seat all one zero d below = all 0 first (omega arith)
all_fresh (first ∷ seats) seat all one (suc k) d below = all_fresh seats seat (λ j e short. all (suc j) e (omega arith)) one k d (omega arith)
