-- What a statement makes of what is stored of its session.
use Rattle.std.proofs.Common.{◌≡◌, ◌∙◌, ap, sym, subst, ℕ, ◌+◌, ◌⊎◌, inl, inr, Bool, true, false, cond, max, IsTrue, List, [], ◌∷◌, ◌++◌, length, take, Option, None, Some, Result, Ok, Err, refl, append-nil, arith, length-append}
use Rattle.std.proofs.lemmas.List.{take-append-le}
use Rattle.std.specs.Option.{option_map}
use Rattle.acl_apply.specs.Causes.{IsCause}
use Rattle.acl_model.specs.Effects.{after, changed, state_after}
use Rattle.acl_model.specs.State.{opening, root}
use Rattle.acl_names.specs.AuthId.{same_auth}
use Rattle.acl_names.specs.declared.auth.AuthId.{AuthId}
use Rattle.acl_stmt.specs.Entries.{is_entry}
use Rattle.acl_stmt.specs.declared.entry.Entry.{Entry}
use Rattle.acl_stmt.specs.declared.limit.Limit.{Limit}
use Rattle.acl_stmt.specs.declared.refusal.Refusal.{Refusal}
use Rattle.acl_stmt.specs.declared.refusal.Refusal.TheVariants as why
use Rattle.acl_stmt.specs.declared.statement.Statement.{Statement}
use Rattle.acl_stmt.specs.declared.statement.Statement.TheVariants.{SetPassword}
use Rattle.book_log.proofs.Grows.{state_after_more}
use Rattle.book_log.specs.Histories.{entry_of, some_entry}
use Rattle.book_log.specs.Items.{Item}
use Rattle.book_log.specs.Items.Call.{Asks}
use Rattle.book_log.specs.Items.Reply.{ToStatement}
use Rattle.book_log.specs.Logs.{IsReply}
use Rattle.book_log.specs.Statements.{IsStatementReply, IsStorable}
use Rattle.legal_runs.specs.Commands.{Answer}
use Rattle.legal_runs.specs.Commands.{Answer as answer}
use Rattle.legal_runs.specs.Commands.Command.{Issue}
use Rattle.legal_runs.specs.Lines.{IsAnsweredAs, IsIssued, IsPublished, IsRefusedLine, IsUnpublished, IsWhole}
use Rattle.legal_runs.specs.Rules.{completed}
use Rattle.legal_runs.specs.Sessions.{Part, after_line, views}
use Rattle.legal_runs.specs.Sessions.Part.{Called, Heard}
use Rattle.line_answers.specs.declared.answer.Answer.{Answer as ToldAnswer}
use Rattle.line_answers.specs.declared.answer.Answer.TheVariants.{Done, Refused}
use Rattle.line_answers.specs.declared.answer.Denial.{Denial}
use Rattle.line_answers.specs.declared.answer.LineRefusal.TheVariants as refused
use Rattle.priv_map.specs.Readings.{IsReadAt}
use Rattle.priv_map.specs.declared.acting.Acting.{Acting}
use Rattle.serial_runs.specs.Serial.Doing.{Calls}
use Rattle.session_check.specs.Session.{StandsFor, acting_of, points_of, read_after}
use Rattle.session_check.specs.declared.session.SessionState.{SessionState}
use Rattle.session_rules.specs.Answers.{denial_on_all, told_refusal}
use Rattle.session_rules.specs.Setting.{lacked_by, no_right, rules, serial_setting}
use Rattle.script_run.proofs.Faults.{refused_by_rules, told_as_refused}
use Rattle.script_run.proofs.Lines.{acts, does_nothing, gives_up, made_entry, some_entry_of, sound_of, state_as}
use Rattle.script_run.proofs.Opens.{stays_open}
use Rattle.script_run.specs.Denials.{is_want}
use Rattle.script_run.specs.Forms.{is_built_statement}
use Rattle.script_run.specs.Lines.{IsEntryOf, IsOpen, IsRepliedAfter, state_now}
use Rattle.script_run.specs.Seats.{IsSound, IsSoundIf, IsSoundState, Steps, Tries, session_in, who_of}
use Rattle.script_run.specs.Seats.Tries.{Accepts, Lacks, Refuses}
use Rattle.script_run.specs.declared.seat.Seat.{Seat}

pub cause_holds : (P : Refusal → Type 0) (e : Refusal) → is_want e ≡ false → IsCause P e → P e
cause_holds P why.NoMemory wanted cause = absurd (cc)
cause_holds P _ wanted cause = cause

-- ---- later statements

pub stands_later : (state : SessionState) (entries more : List Entry) → StandsFor state entries → StandsFor state (entries ++ more)
stands_later state entries more stands =
    let global : take (points_of state).global (entries ++ more) ≡ take (points_of state).global entries = take-append-le (points_of state).global entries more stands.global in
    let schema : take (points_of state).schema (entries ++ more) ≡ take (points_of state).schema entries = take-append-le (points_of state).schema entries more stands.schema in
    record {
      global = omega (arith, stands.global, length-append entries more);
      schema = omega (arith, stands.schema, length-append entries more);
      read = subst (λ es. IsReadAt (acting_of state) (read_after state es) (read_after state (take (points_of state).schema (entries ++ more)))) (sym global)
          (subst (λ es. IsReadAt (acting_of state) (read_after state (take (points_of state).global entries)) (read_after state es)) (sym schema) stands.read);
    }

state_later : (state : Option SessionState) (seat : Seat) (entries more : List Entry) → IsSoundIf state seat entries → IsSoundIf state seat (entries ++ more)
state_later None seat entries more sound = tt
state_later (Some state) seat entries more sound =
    record { stands = stands_later state entries more sound.stands; points_are = sound.points_are; no_roles = sound.no_roles }

pub sound_later : (seat : Seat) (entries more : List Entry) → IsSound seat entries → IsSound seat (entries ++ more)
sound_later seat entries more sound = record {
  state = state_later seat.state seat entries more sound.state;
  seen = omega (arith, sound.seen, length-append entries more);
}

-- ---- lines that call nobody

pub not_connected_issue : (entries : List Entry) (caller : ℕ) (old : Seat) (statement : Statement) → old.state ≡ None → IsSound old entries
    → Steps entries entries caller old old (Issue statement) (Refused refused.NotConnected)
unfolding IsWhole after_line
not_connected_issue entries caller old statement none sound =
    does_nothing entries caller old old (Issue statement) answer.NotConnected (Refused refused.NotConnected)
    (inl (subst (λ o. IsAnsweredAs serial_setting (views entries (session_in old) []) (option_map who_of o) (Issue statement) [] answer.NotConnected) (sym none) (refl, refl)))
    refl refl refl sound

pub no_memory_issue : (entries : List Entry) (caller : ℕ) (old : Seat) (statement : Statement) → IsSound old entries
    → Steps entries entries caller old old (Issue statement) (Refused refused.NoMemory)
unfolding IsWhole after_line
no_memory_issue entries caller old statement sound =
    does_nothing entries caller old old (Issue statement) answer.NoMemory (Refused refused.NoMemory) (inr (gives_up (session_in old).who (Issue statement)))
    refl refl refl sound

-- ---- replies

completed_same : (account : AuthId) (statement : Statement) → is_built_statement statement ≡ true → completed account statement ≡ statement
completed_same account (SetPassword None verifier) built = absurd (cc)
completed_same account _ built = refl

right_of_root : (account : AuthId) (own : Bool) → same_auth account root ≡ own → own ≡ true → lacked_by account ≡ None
right_of_root account true is own = ap (λ t. cond t None (Some no_right)) is
right_of_root account false is own = absurd (cc)

no_right_of : (account : AuthId) (own : Bool) → same_auth account root ≡ own → own ≡ false → lacked_by account ≡ Some no_right
no_right_of account false is other = ap (λ t. cond t None (Some no_right)) is
no_right_of account true is other = absurd (cc)

-- a reply after these statements is one after each log by which they are accepted
replied_after : (before : List Entry) (caller number : ℕ) (acting : Acting) (statement : Statement) (entry : Entry) (reply : Result ℕ Refusal) →
    entry_of rules caller number acting statement ≡ Some entry → IsStatementReply rules before (state_now before) acting (Some entry) reply →
    IsRepliedAfter before caller number (Calls None (Asks acting statement) (ToStatement reply))
unfolding IsReply
replied_after before caller number acting statement entry reply made replied = λ past entries_are. (
  refl,
  subst (λ (es : List Entry). IsStatementReply rules es (state_after es opening) acting (entry_of rules caller number acting statement) reply) (sym entries_are)
      (subst (λ (some : Option Entry). IsStatementReply rules before (state_now before) acting some reply) (sym made) replied),
)

-- the session's own acting asks for the statement itself
issued : (entries : List Entry) (old : Seat) (st : SessionState) (statement : Statement) (parts : List Part) (told : Answer) → IsSoundState st old entries →
    is_built_statement statement ≡ true →
    (IsPublished (acting_of st) statement parts told ⊎ (IsUnpublished (acting_of st) statement parts told ⊎ IsRefusedLine (acting_of st) statement parts told)) →
    IsIssued serial_setting (views entries (session_in old) parts) (who_of st) (completed (who_of st).account statement) parts told
issued entries old st statement parts told sound built answered =
    subst (λ (s : Statement). IsIssued serial_setting (views entries (session_in old) parts) (who_of st) s parts told) (sym (completed_same (acting_of st).account statement built))
    (record { acting = acting_of st; is_acting = acts entries old st sound; answered = answered })

-- ---- statements that are refused

refuses : (entries : List Entry) (caller : ℕ) (old : Seat) (st : SessionState) (statement : Statement) (entry : Entry) (reason : Refusal) (told : ToldAnswer) →
    old.state ≡ Some st → IsSound old entries → is_built_statement statement ≡ true → entry_of rules caller old.calls (acting_of st) statement ≡ Some entry →
    IsStatementReply rules entries (state_now entries) (acting_of st) (Some entry) (Err reason) → told_refusal reason ≡ Some told →
    Steps entries entries caller old (record { state = old.state; points = old.points; seen = old.seen; calls = old.calls + 1 }) (Issue statement) told
unfolding IsWhole after_line
refuses entries caller old st statement entry reason told is sound built made replied told_is =
    let acting : Acting = acting_of st in
    let item : Item = record { caller = caller; number = old.calls; call = Asks acting statement; reply = ToStatement (Err reason) } in
    let parts : List Part = Called item ∷ [] in
    let answered : IsRefusedLine acting statement parts (answer.RefusedStatement reason) =
    record { item = item; why = reason; parts_are = refl; call_is = refl; reply_is = refl; answer_is = refl } in
    record {
      doing = Calls None (Asks acting statement) (ToStatement (Err reason));
      answer = answer.RefusedStatement reason;
      replied = replied_after entries caller old.calls acting statement entry (Err reason) made replied;
      whole =
          inl (subst (λ o. IsAnsweredAs serial_setting (views entries (session_in old) parts) (option_map who_of o) (Issue statement) parts (answer.RefusedStatement reason)) (sym is)
          (issued entries old st statement parts (answer.RefusedStatement reason) (sound_of entries old st is sound) built (inr (inr answered))));
      told_is = told_is;
      quiet = λ never. absurd (cc);
      more = sym (append-nil entries);
      session = refl;
      calls = refl;
      sound = record {
        state = state_as old.state old (record { state = old.state; points = old.points; seen = old.seen; calls = old.calls + 1 }) entries refl sound.state;
        seen = sound.seen;
      };
      opened = λ opened. opened;
    }

pub denies : (entries : List Entry) (caller : ℕ) (old : Seat) (st : SessionState) (statement : Statement) (denial : Denial) → old.state ≡ Some st → IsSound old entries →
    IsTrue (is_built_statement statement) → IsTrue (is_entry [] statement) → same_auth (acting_of st).account root ≡ false → denial ≡ denial_on_all no_right →
    Steps entries entries caller old (record { state = old.state; points = old.points; seen = old.seen; calls = old.calls + 1 }) (Issue statement) (Refused (refused.Denied denial))
denies entries caller old st statement denial is sound built kept other same =
    let made = some_entry_of caller old.calls (acting_of st) statement kept in
    refuses entries caller old st statement made.0 (why.Denied no_right) (Refused (refused.Denied denial)) is sound built made.1
    (no_right_of (acting_of st).account false other refl) (ap (λ (d : Denial). Some (Refused (refused.Denied d))) (sym same))

-- ---- statements that are accepted

accepts : (before : List Entry) (caller : ℕ) (old : Seat) (st : SessionState) (statement : Statement) (entry : Entry) (told : ToldAnswer) →
    old.state ≡ Some st → IsSound old before → is_built_statement statement ≡ true → entry_of rules caller old.calls (acting_of st) statement ≡ Some entry →
    entry.limits ≡ [] → entry.statement ≡ statement →
    IsStorable rules before (state_now before) (acting_of st) entry → told ≡ Done (length before + 1) →
    Steps before (before ++ entry ∷ []) caller old (record { state = old.state; points = old.points; seen = length before + 1; calls = old.calls + 1 }) (Issue statement) told
unfolding IsWhole after_line after state_after
accepts before caller old st statement entry told is sound built made no_limits statement_is storable told_is =
    let acting : Acting = acting_of st in
    let later : List Entry = before ++ entry ∷ [] in
    let long = length-append before (entry ∷ []) in
    let few = sound.seen in
    let item : Item = record { caller = caller; number = old.calls; call = Asks acting statement; reply = ToStatement (Ok (length before + 1)) } in
    let parts : List Part = Called item ∷ Heard (length later) ∷ [] in
    let answered : IsPublished acting statement parts (answer.Done (length before + 1) true) =
    record { item = item; position = length before + 1; told = length later; parts_are = refl; call_is = refl; reply_is = refl; is_told = omega (arith, long); answer_is = refl } in
    let now_sound : IsSound old later = sound_later old before (entry ∷ []) sound in
    let now : length before + 1 ≡ max old.seen (length later) = omega (arith, long, few) in
    record {
      doing = Calls None (Asks acting statement) (ToStatement (Ok (length before + 1)));
      answer = answer.Done (length before + 1) true;
      replied = replied_after before caller old.calls acting statement entry (Ok (length before + 1)) made (storable, refl);
      whole =
          inl (subst (λ o. IsAnsweredAs serial_setting (views later (session_in old) parts) (option_map who_of o) (Issue statement) parts (answer.Done (length before + 1) true)) (sym is)
          (issued later old st statement parts (answer.Done (length before + 1) true) (sound_of later old st is now_sound) built (inl answered)));
      told_is = ap Some (sym told_is);
      quiet = λ never. absurd (cc);
      more = ap (λ (some : Option Entry). before ++ some_entry some) (sym made);
      session = λ i. record { who = option_map who_of old.state; global = old.points.global; schema = old.points.schema; now = now i };
      calls = refl;
      sound = record {
        state = state_as old.state old (record { state = old.state; points = old.points; seen = length before + 1; calls = old.calls + 1 }) later refl now_sound.state;
        seen = omega (arith, long);
      };
      opened = λ opened.
          subst IsOpen
          (sym (state_after_more before (entry ∷ []) opening ∙ ap (λ (limits : List Limit). changed limits entry.statement (state_now before)) no_limits
          ∙ ap (λ (s : Statement). changed [] s (state_now before)) statement_is))
          (stays_open statement (state_now before) built opened);
    }

pub tries : (before later : List Entry) (caller : ℕ) (old new : Seat) (st : SessionState) (statement : Statement) (entry : Entry) (told : ToldAnswer) → old.state ≡ Some st →
    IsSound old before → IsTrue (is_built_statement statement) → IsTrue (is_entry [] statement) → same_auth (acting_of st).account root ≡ true →
    IsEntryOf caller old.calls (acting_of st).account statement entry → Tries before later old new entry told → Steps before later caller old new (Issue statement) told
unfolding IsWhole after_line
tries before later caller old new st statement entry told is sound built kept by of (Accepts accepted more told_is new_is) =
    let made : entry_of rules caller old.calls (acting_of st) statement ≡ Some entry = made_entry caller old.calls (acting_of st) statement entry kept of in
    let right : lacked_by (acting_of st).account ≡ None = right_of_root (acting_of st).account true by refl in
    subst (λ (es : List Entry). Steps before es caller old new (Issue statement) told) (sym more)
    (subst (λ (seat : Seat). Steps before (before ++ entry ∷ []) caller old seat (Issue statement) told) (sym new_is)
    (accepts before caller old st statement entry told is sound built made of.no_limits of.statement_is
    (record { nothing_lacked = right; is_accepted = accepted; has_room = refl }) told_is))
tries before later caller old new st statement entry told is sound built kept by of (Refuses reason refusal same told_is new_is) =
    let made : entry_of rules caller old.calls (acting_of st) statement ≡ Some entry = made_entry caller old.calls (acting_of st) statement entry kept of in
    let right : lacked_by (acting_of st).account ≡ None = right_of_root (acting_of st).account true by refl in
    let form : is_built_statement entry.statement ≡ true = ap is_built_statement of.statement_is ∙ built in
    subst (λ (es : List Entry). Steps before es caller old new (Issue statement) told) (sym same)
    (subst (λ (seat : Seat). Steps before before caller old seat (Issue statement) told) (sym new_is)
    (refuses before caller old st statement entry reason told is sound built made
    (refused_by_rules before (state_now before) (acting_of st) entry reason form right refusal)
    (told_as_refused (state_now before) entry reason form refusal ∙ ap Some (sym told_is))))
tries before later caller old new st statement entry told is sound built kept by of (Lacks same told_is new_is) =
    subst (λ (es : List Entry). Steps before es caller old new (Issue statement) told) (sym same)
    (subst (λ (seat : Seat). Steps before before caller old seat (Issue statement) told) (sym new_is)
    (subst (λ (this : ToldAnswer). Steps before before caller old old (Issue statement) this) (sym told_is) (no_memory_issue before caller old statement sound)))
