-- What one item more at the end of a log changes.
use Rattle.std.proofs.Common.{◌≡◌, ◌≢◌, ◌∙◌, ℕ, ◌+◌, Bool, true, false, List, [], ◌∷◌, ◌++◌, length, Option, Some, None, Ok, Err, refl, sym, ap, append_assoc, append-nil, length-append}
use Rattle.std.proofs.lemmas.Grind.{flat_map-append}
use Rattle.std.specs.List.{flat_map}
use Rattle.acl_model.specs.Effects.{after, state_after}
use Rattle.acl_model.specs.State.{State}
use Rattle.acl_names.specs.declared.auth.AuthId.{AuthId}
use Rattle.acl_stmt.specs.declared.entry.Entry.{Entry}
use Rattle.acl_stmt.specs.declared.statement.Statement.{Statement}
use Rattle.book_log.specs.Histories.{accepted_in, entry_of, history, some_entry, stored}
use Rattle.book_log.specs.Items.{Call, Item, Reply, asked}
use Rattle.book_log.specs.Items.Call.{Asks, Knocks}
use Rattle.book_log.specs.Items.Reply.{ToLogin, ToStatement}
use Rattle.book_log.specs.Logs.{IsOneMore, IsReply, IsReplyWhere, Origin, entries_at, is_ended, state_at}
use Rattle.book_log.specs.Pasts.{Noted, Past, log_of}
use Rattle.book_log.specs.Rules.{Rules}
use Rattle.book_log.specs.Statements.{IsStatementReply}
use Rattle.priv_map.specs.declared.acting.Acting.{Acting}

pub history_more : (rules : Rules) (base : List Entry) (log : List Item) (item : Item) →
    history rules base (log ++ item ∷ []) ≡ history rules base log ++ accepted_in rules item
unfolding history
history_more rules base log item =
    ap (λ entries. base ++ entries)
    (flat_map-append (accepted_in rules) log (item ∷ []) ∙ ap (λ entries. flat_map (accepted_in rules) log ++ entries) (append-nil (accepted_in rules item)))
    ∙ sym (append_assoc base (flat_map (accepted_in rules) log) (accepted_in rules item))

pub state_after_more : (entries more : List Entry) (before : State) → state_after (entries ++ more) before ≡ state_after more (state_after entries before)
unfolding state_after
state_after_more [] more before = refl
state_after_more (entry ∷ entries) more before = state_after_more entries more (after entry before)

pub state_more : (origin : Origin) (past : Past) (noted : Noted) →
    state_at origin (noted ∷ past) ≡ state_after (accepted_in origin.rules noted.item) (state_at origin past)
state_more origin past noted =
    ap (λ entries. state_after entries origin.start) (history_more origin.rules origin.base (log_of past) noted.item)
    ∙ state_after_more (entries_at origin past) (accepted_in origin.rules noted.item) origin.start

-- the statement of a call that was answered Done is the one entry more
done_stored : (rules : Rules) (entries : List Entry) (state : State) (acting : Acting) (statement : Statement) (position : ℕ) (made : Option Entry) →
    IsStatementReply rules entries state acting made (Ok position) →
    (entry : Entry) × (made ≡ Some entry) × (some_entry made ≡ entry ∷ []) × (position ≡ length entries + 1)
done_stored rules entries state acting statement position None reply = absurd reply
done_stored rules entries state acting statement position (Some entry) reply = (entry, refl, refl, reply.1)

done_by : (ended : Bool) (origin : Origin) (past : Past) (caller number : ℕ) (chosen : Option AuthId) (acting : Acting) (statement : Statement) (position : ℕ) →
    IsReplyWhere ended origin past caller number chosen (Asks acting statement) (ToStatement (Ok position)) →
    (entry : Entry) × (entry_of origin.rules caller number acting statement ≡ Some entry)
    × (stored origin.rules caller number (Asks acting statement) (ToStatement (Ok position)) ≡ entry ∷ []) × (position ≡ length (entries_at origin past) + 1)
done_by true origin past caller number chosen acting statement position reply = absurd (cc)
done_by false origin past caller number chosen acting statement position reply =
    done_stored origin.rules (entries_at origin past) (state_at origin past) acting statement position (entry_of origin.rules caller number acting statement) reply.1

pub grows_by_one : (origin : Origin) (past : Past) (caller number : ℕ) (chosen : Option AuthId) (acting : Acting) (statement : Statement) (position : ℕ) →
    IsReply origin past (record { item = asked caller number acting statement (Ok position); chosen = chosen }) →
    (entry : Entry) × IsOneMore origin past (record { item = asked caller number acting statement (Ok position); chosen = chosen }) acting statement position entry
unfolding IsReply state_after
grows_by_one origin past caller number chosen acting statement position reply =
    let noted : Noted = record { item = asked caller number acting statement (Ok position); chosen = chosen } in
    let done = done_by (is_ended origin.end (length past)) origin past caller number chosen acting statement position reply in
    let more : entries_at origin (noted ∷ past) ≡ entries_at origin past ++ done.0 ∷ [] =
    history_more origin.rules origin.base (log_of past) noted.item ∙ ap (λ entries. entries_at origin past ++ entries) done.2 in
    let sum : length (entries_at origin past ++ done.0 ∷ []) ≡ length (entries_at origin past) + 1 = length-append (entries_at origin past) (done.0 ∷ []) in (
      done.0,
      record {
        entry_is = done.1;
        history_is = more;
        position_is = done.3 ∙ sym sum ∙ sym (ap length more);
        state_is = state_more origin past noted ∙ ap (λ entries. state_after entries (state_at origin past)) done.2;
      },
    )

nothing_stored : (rules : Rules) (caller number : ℕ) (call : Call) (reply : Reply) → ((position : ℕ) → reply ≢ ToStatement (Ok position)) →
    stored rules caller number call reply ≡ []
nothing_stored rules caller number (Asks acting statement) (ToStatement (Ok position)) none = absurd (none position refl)
nothing_stored rules caller number (Asks acting statement) (ToStatement (Err why)) none = refl
nothing_stored rules caller number (Asks acting statement) (ToLogin answer) none = refl
nothing_stored rules caller number (Knocks knock) reply none = refl

pub grows_by_nothing : (rules : Rules) (base : List Entry) (log : List Item) (item : Item) → ((position : ℕ) → item.reply ≢ ToStatement (Ok position)) →
    history rules base (log ++ item ∷ []) ≡ history rules base log
grows_by_nothing rules base log item none =
    history_more rules base log item ∙ ap (λ entries. history rules base log ++ entries) (nothing_stored rules item.caller item.number item.call item.reply none)
    ∙ append-nil (history rules base log)
