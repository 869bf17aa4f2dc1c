-- What is known while a holder's entries are taken away.
use Rattle.std.specs.Prelude.{◌≡◌, ℕ, Bool, false, ◌<◌, ◌≤◌, ◌+◌, ◌==◌, List, length}
use Rattle.std.specs.List.{slice_index_or}
use Rattle.held_bits.specs.Bits.{record_count}
use Rattle.held_bits.specs.HeldBits.{Entry, Held, bits_at, thing_count, uses_in}

-- the entry at a place is the holder's
pub record IsAt {K : Type 0} (entries : List (Entry K)) (holder place : ℕ) : Type 0 where
  pub inside : place < length entries
  pub holder_is : (d : Entry K) → (slice_index_or entries place d).holder ≡ holder

-- the holder holds less, and all else stays
pub record HoldsLess {K : Type 0} (eq : K → K → Bool) (old new : Held K) (holder : ℕ) : Type 0 where
  pub sets : (h : ℕ) (k : K) → (h == holder) ≡ false → bits_at eq new.entries h k ≡ bits_at eq old.entries h k
  pub uses : (k : K) → uses_in eq new.entries k + record_count (bits_at eq old.entries holder k)
      ≡ uses_in eq old.entries k + record_count (bits_at eq new.entries holder k)
  pub things : thing_count eq new.entries ≤ thing_count eq old.entries
  pub record_room : new.record_room + length new.entries ≡ old.record_room + length old.entries
  pub thing_room : old.thing_room ≤ new.thing_room
