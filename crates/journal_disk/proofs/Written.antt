-- What the steps of a journal write keep, and what they leave.
use Rattle.std.proofs.Common.{◌≡◌, ◌≢◌, ◌⊎◌, inl, inr, ℕ, ◌+◌, ◌<◌, ◌≤◌, List, [], ◌∷◌, ◌++◌, length, take, drop, refl, sym, ap, subst, ◌∙◌, append_assoc, length-append, length-take, length-drop, arith}
use Rattle.std.proofs.lemmas.List.{drop_at, take_at}
use Rattle.std.proofs.lemmas.List.Elements.{All-cons, All-nil}
use Rattle.acl_model.specs.State.{State}
use Rattle.acl_ports.proofs.Crash.{front_stays, front_unchanged, sides_stay, sides_unchanged}
use Rattle.acl_ports.specs.Crash.{IsTorn, Pending}
use Rattle.acl_ports.specs.Disk.{HasChangedIn, HasChangedWithin, content_after_write}
use Rattle.acl_stmt.specs.declared.entry.Entry.{Entry}
use Rattle.journal_bytes.proofs.Sizes.{place}
use Rattle.journal_bytes.proofs.Standing.{long_enough, same_front, with_entry, without_entry}
use Rattle.journal_bytes.specs.Files.{MayFollow, StandsEitherWay, StandsFor, before_gate, file_size, payload_bytes}
use Rattle.journal_disk.proofs.Parts.{same_sides, with_gate, with_record}
use Rattle.journal_disk.proofs.Steps.{all_of, dirtied}
use Rattle.journal_disk.proofs.WriteAndSync.{Keeps}
use Rattle.journal_disk.specs.Held.{HoldsEither, HoldsList}

stands_long : (start : State) (file : List ℕ) (entries : List Entry) → StandsFor start file entries → file_size entries ≤ length file
stands_long start file entries stands = long_enough entries file stands.gate stands.behind stands.bytes

-- behind the last gate of a list
module _ (start : State) (entries : List Entry) where
  pub list_images : (held : List ℕ) (known : Pending) (image : List ℕ) → HoldsList start entries held known → IsTorn known.dirty known.synced image → StandsFor start image entries
  list_images held known image holds torn =
      same_front start known.synced image entries holds.synced
      (front_stays known.dirty known.synced image (file_size entries) holds.in_doubt (stands_long start known.synced entries holds.synced) torn)

  pub list_wrote : (bytes held : List ℕ) (known : Pending) → HoldsList start entries held known → HoldsList start entries (content_after_write held (file_size entries) bytes) (dirtied (file_size entries) (length bytes) known)
  list_wrote bytes held known holds = record {
    read =
        let size = file_size entries in
        let rest = drop (size + length bytes) held in
        let long : file_size entries ≤ length held = stands_long start held entries holds.read in
        let front : length (take (file_size entries) held) ≡ file_size entries = omega (arith, length-take (file_size entries) held, long) in
        same_front start held _ entries holds.read (ap (take size) (append_assoc (take size held) bytes rest) ∙ take_at (take size held) (bytes ++ rest) size front);
    synced = holds.synced;
    in_doubt = All-cons (λ (range : ℕ × ℕ). file_size entries ≤ range.0) (file_size entries, length bytes) known.dirty (omega arith) holds.in_doubt;
  }

  pub list_tore : (count : ℕ) (held next : List ℕ) (known : Pending) → HoldsList start entries held known → HasChangedWithin (file_size entries) count held next → HoldsList start entries next known
  list_tore count held next known holds changed = record {
    read = same_front start held next entries holds.read changed.front;
    synced = holds.synced;
    in_doubt = holds.in_doubt;
  }

  pub list_widens : (count : ℕ) (held : List ℕ) (known : Pending) → HoldsList start entries held known → HoldsList start entries held (dirtied (file_size entries) count known)
  list_widens count held known holds = record {
    read = holds.read;
    synced = holds.synced;
    in_doubt = All-cons (λ (range : ℕ × ℕ). file_size entries ≤ range.0) (file_size entries, count) known.dirty (omega arith) holds.in_doubt;
  }

  pub list_synced : (held : List ℕ) (known : Pending) → HoldsList start entries held known → HoldsList start entries held (all_of held)
  list_synced held known holds = record {
    read = holds.read;
    synced = holds.read;
    in_doubt = All-nil (λ (range : ℕ × ℕ). file_size entries ≤ range.0);
  }

  pub list_sync_tore : (held next : List ℕ) (known : Pending) → HoldsList start entries held known → HasChangedIn known.dirty held next → HoldsList start entries next known
  list_sync_tore held next known holds changed = record {
    read =
        same_front start held next entries holds.read
        (front_unchanged known.dirty held next (file_size entries) holds.in_doubt (stands_long start held entries holds.read) changed);
    synced = holds.synced;
    in_doubt = holds.in_doubt;
  }

-- at the last gate of a list, behind which the record of an entry stands
module _ (start : State) (entries : List Entry) (entry : Entry) where
  either_long : (file : List ℕ) → StandsEitherWay start file entries entry → file_size entries ≤ length file
  either_long file either = long_enough entries file either.gate (payload_bytes entry ++ either.next_gate ∷ either.behind) either.bytes

  abbrev IsGate : ℕ × ℕ → Type 0
  IsGate range = (length (before_gate entries) ≤ range.0) × (range.0 + range.1 ≤ file_size entries)

  gate_place : length (before_gate entries) ≤ file_size entries
  gate_place = omega (arith, place entries)

  -- both sides of the gate are those of a file that stands so
  sides : (file other : List ℕ) → StandsEitherWay start file entries entry → take (length (before_gate entries)) other ≡ take (length (before_gate entries)) file
      → drop (file_size entries) other ≡ drop (file_size entries) file → length file ≤ length other → StandsEitherWay start other entries entry
  sides file other either front back long =
      let behind : drop (length (before_gate entries) + 1) other ≡ drop (length (before_gate entries) + 1) file = rw (place entries) back in
      same_sides start file other entries entry either front behind long

  pub either_images : (held : List ℕ) (known : Pending) (image : List ℕ) → HoldsEither start entries entry held known → IsTorn known.dirty known.synced image → StandsEitherWay start image entries entry
  either_images held known image holds torn =
      let both = sides_stay known.dirty known.synced image (length (before_gate entries)) (file_size entries) holds.in_doubt gate_place (either_long known.synced holds.synced) torn in
      sides known.synced image holds.synced both.0 both.1 torn.no_shorter

  -- the gate that was written
  pub gate_written : (at value : ℕ) (held : List ℕ) → at ≡ length (before_gate entries) → StandsEitherWay start held entries entry
      → (either : StandsEitherWay start (content_after_write held at (value ∷ [])) entries entry) × (either.gate ≡ value)
  gate_written at value held is either =
      with_gate start held _ entries entry value either
      (append_assoc (take at held) (value ∷ []) (drop (at + 1) held) ∙ ap (λ (k : ℕ). take k held ++ value ∷ drop (k + 1) held) is)

  gate_range : (at count : ℕ) → at ≡ length (before_gate entries) → count ≤ 1 → IsGate (at, count)
  gate_range at count is one = (omega (arith, is), omega (arith, is, one, place entries))

  pub either_wrote : (at value : ℕ) (held : List ℕ) (known : Pending) → at ≡ length (before_gate entries) → HoldsEither start entries entry held known
      → HoldsEither start entries entry (content_after_write held at (value ∷ [])) (dirtied at 1 known)
  either_wrote at value held known is holds = record {
    read = (gate_written at value held is holds.read).0;
    synced = holds.synced;
    in_doubt = All-cons IsGate (at, 1) known.dirty (gate_range at 1 is (omega arith)) holds.in_doubt;
  }

  pub either_tore : (at : ℕ) (held next : List ℕ) (known : Pending) → at ≡ length (before_gate entries) → HoldsEither start entries entry held known → HasChangedWithin at 1 held next → HoldsEither start entries entry next known
  either_tore at held next known is holds changed = record {
    read =
        let front : take (length (before_gate entries)) next ≡ take (length (before_gate entries)) held = subst (λ (k : ℕ). take k next ≡ take k held) is changed.front in
        let size : at + 1 ≡ file_size entries = omega (arith, is, place entries) in
        let back : drop (file_size entries) next ≡ drop (file_size entries) held = subst (λ (k : ℕ). drop k next ≡ drop k held) size changed.rest in
        sides held next holds.read front back changed.no_shorter;
    synced = holds.synced;
    in_doubt = holds.in_doubt;
  }

  pub either_widens : (at : ℕ) (held : List ℕ) (known : Pending) → at ≡ length (before_gate entries) → HoldsEither start entries entry held known → HoldsEither start entries entry held (dirtied at 1 known)
  either_widens at held known is holds = record {
    read = holds.read;
    synced = holds.synced;
    in_doubt = All-cons IsGate (at, 1) known.dirty (gate_range at 1 is (omega arith)) holds.in_doubt;
  }

  pub either_of : (held : List ℕ) → StandsEitherWay start held entries entry → HoldsEither start entries entry held (all_of held)
  either_of held either = record { read = either; synced = either; in_doubt = All-nil IsGate }

  pub either_synced : (held : List ℕ) (known : Pending) → HoldsEither start entries entry held known → HoldsEither start entries entry held (all_of held)
  either_synced held known holds = either_of held holds.read

  pub either_sync_tore : (held next : List ℕ) (known : Pending) → HoldsEither start entries entry held known → HasChangedIn known.dirty held next → HoldsEither start entries entry next known
  either_sync_tore held next known holds changed = record {
    read =
        let both = sides_unchanged known.dirty held next (length (before_gate entries)) (file_size entries) holds.in_doubt gate_place (either_long held holds.read) changed in
        sides held next holds.read both.0 both.1 changed.no_shorter;
    synced = holds.synced;
    in_doubt = holds.in_doubt;
  }

pub list_of : (start : State) (entries : List Entry) (held : List ℕ) → StandsFor start held entries → HoldsList start entries held (all_of held)
list_of start entries held stands = record { read = stands; synced = stands; in_doubt = All-nil (λ (range : ℕ × ℕ). file_size entries ≤ range.0) }

-- a write behind the last gate
pub behind_keeps : (start : State) (entries : List Entry) (at : ℕ) (bytes : List ℕ) → at ≡ file_size entries → Keeps at bytes (HoldsList start entries) (λ image. StandsFor start image entries)
behind_keeps start entries at bytes is =
    let P : ℕ → Type 0 = λ k. Keeps k bytes (HoldsList start entries) (λ image. StandsFor start image entries) in
    subst P (sym is) (record {
      images = list_images start entries;
      wrote = list_wrote start entries bytes;
      tore = list_tore start entries (length bytes);
      widens = list_widens start entries (length bytes);
      synced = list_synced start entries;
      sync_tore = list_sync_tore start entries;
    })

-- what was written behind the last gate, where it is the record of an entry that may follow
pub record_written : (start : State) (entries : List Entry) (entry : Entry) (at : ℕ) (bytes held : List ℕ) → at ≡ file_size entries → MayFollow start entries entry → bytes ≡ payload_bytes entry ++ 0 ∷ []
    → StandsFor start held entries → StandsEitherWay start (content_after_write held at bytes) entries entry
record_written start entries entry at bytes held is follows same stands =
    let P : ℕ → Type 0 = λ k. StandsEitherWay start (content_after_write held k bytes) entries entry in
    subst P (sym is) (with_record start held entries entry bytes stands follows same)

-- a write of the last gate
pub gate_keeps : (start : State) (entries : List Entry) (entry : Entry) (at value : ℕ) → at ≡ length (before_gate entries) → Keeps at (value ∷ []) (HoldsEither start entries entry) (λ image. StandsEitherWay start image entries entry)
gate_keeps start entries entry at value is = record {
  images = either_images start entries entry;
  wrote = λ held known holds. either_wrote start entries entry at value held known is holds;
  tore = λ held next known holds changed. either_tore start entries entry at held next known is holds changed;
  widens = λ held known holds. either_widens start entries entry at held known is holds;
  synced = either_synced start entries entry;
  sync_tore = either_sync_tore start entries entry;
}

-- the gate that was written, and what the file then stands for
pub opened_by : (start : State) (entries : List Entry) (entry : Entry) (at value : ℕ) (held : List ℕ) → at ≡ length (before_gate entries) → StandsEitherWay start held entries entry → value ≡ 1
    → StandsFor start (content_after_write held at (value ∷ [])) (entries ++ entry ∷ [])
opened_by start entries entry at value held is either one =
    let written = gate_written start entries entry at value held is either in
    with_entry start _ entries entry written.0 (written.1 ∙ one)

pub closed_by : (start : State) (entries : List Entry) (entry : Entry) (at value : ℕ) (held : List ℕ) → at ≡ length (before_gate entries) → StandsEitherWay start held entries entry → value ≢ 1
    → StandsFor start (content_after_write held at (value ∷ [])) entries
closed_by start entries entry at value held is either other =
    let written = gate_written start entries entry at value held is either in
    without_entry start _ entries entry written.0 (λ same. other (sym written.1 ∙ same))
