-- A history by its parts.
use Rattle.std.proofs.Common.{◌≡◌, ℕ, ◌+◌, ◌<◌, ◌≤◌, List, [], ◌∷◌, ◌++◌, length, refl, sym, ap, subst, append_assoc, length-append, arith}
use Rattle.std.specs.List.{AllByRecursion}
use Rattle.accepted_lists.specs.Accepted.{AreAccepted}
use Rattle.acl_model.specs.Acceptance.{IsAccepted}
use Rattle.acl_model.specs.Effects.{after, state_after}
use Rattle.acl_model.specs.State.{State}
use Rattle.acl_stmt.specs.declared.entry.Entry.{Entry}
use Rattle.entry_bytes.specs.Spelling.{HasBytes}
use Rattle.journal_bytes.proofs.Sizes.{size_front, size_none}
use Rattle.journal_bytes.specs.Files.{IsHistory, MayFollow, file_size}

written_more : (entries : List Entry) (entry : Entry) → AllByRecursion HasBytes entries → HasBytes entry → AllByRecursion HasBytes (entries ++ entry ∷ [])
written_more [] entry all one = (one, tt)
written_more (first ∷ rest) entry all one = (all.0, written_more rest entry all.1 one)

accepted_more : (entries : List Entry) (entry : Entry) (start : State) → AreAccepted entries start → IsAccepted (state_after entries start) entry → AreAccepted (entries ++ entry ∷ []) start
unfolding state_after
accepted_more [] entry start all one = (one, tt)
accepted_more (first ∷ rest) entry start all one = (all.0, accepted_more rest entry (after first start) all.1 one)

-- the list with an entry that may follow
pub history_more : (start : State) (entries : List Entry) (entry : Entry) → IsHistory start entries → MayFollow start entries entry → IsHistory start (entries ++ entry ∷ [])
history_more start entries entry history follows = record {
  written = written_more entries entry history.written follows.written;
  accepted = accepted_more entries entry start history.accepted follows.accepted;
  few = omega (arith, length-append entries (entry ∷ []), follows.few);
  small = follows.small;
}

pub history_none : (start : State) → IsHistory start []
history_none start = record {
  written = tt;
  accepted = tt;
  few = omega arith;
  small = omega (arith, size_none);
}

written_at : (entries : List Entry) (entry : Entry) (more : List Entry) → AllByRecursion HasBytes (entries ++ entry ∷ more) → HasBytes entry
written_at [] entry more all = all.0
written_at (first ∷ rest) entry more all = written_at rest entry more all.1

accepted_at : (entries : List Entry) (entry : Entry) (more : List Entry) (start : State) → AreAccepted (entries ++ entry ∷ more) start → IsAccepted (state_after entries start) entry
unfolding state_after
accepted_at [] entry more start all = all.0
accepted_at (first ∷ rest) entry more start all = accepted_at rest entry more (after first start) all.1

-- an entry of a history may follow those before it
pub follows_in : (start : State) (entries : List Entry) (entry : Entry) (more : List Entry) → IsHistory start (entries ++ entry ∷ more) → MayFollow start entries entry
follows_in start entries entry more history = record {
  written = written_at entries entry more history.written;
  accepted = accepted_at entries entry more start history.accepted;
  few = omega (arith, length-append entries (entry ∷ more), history.few);
  small =
      let same : entries ++ entry ∷ more ≡ (entries ++ entry ∷ []) ++ more = sym (append_assoc entries (entry ∷ []) more) in
      let size : file_size (entries ++ entry ∷ more) ≡ file_size ((entries ++ entry ∷ []) ++ more) = ap file_size same in
      omega (arith, size, size_front (entries ++ entry ∷ []) more, history.small);
}

pub state_more : (entries : List Entry) (entry : Entry) (start : State) → state_after (entries ++ entry ∷ []) start ≡ after entry (state_after entries start)
unfolding state_after
state_more [] entry start = refl
state_more (first ∷ rest) entry start = state_more rest entry (after first start)

pub state_none : (start : State) → state_after [] start ≡ start
unfolding state_after
state_none start = refl
