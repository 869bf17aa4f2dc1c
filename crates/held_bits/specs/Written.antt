-- Where a record stands or would, and what a write of bits does to a table.
use Rattle.std.specs.Prelude.{◌≡◌, ℕ, ◌<◌, ◌≤◌, ◌+◌, ◌*◌, ◌^◌, ◌==◌, List, length, if◌then◌else◌}
use Rattle.std.specs.List.{slice_index_or}
use Rattle.held_bits.specs.declared.bits.Bits.{Bits}
use Rattle.held_bits.specs.declared.record.Record.{Record}
use Rattle.held_bits.specs.Bits.{record_count}
use Rattle.held_bits.specs.Records.{AreUses, IsTable, SetsRecord, bits_in, number_uses, rank}

-- the record of a holder and a number stands at a place
pub record StandsAt (records : List Record) (holder thing place : ℕ) : Type 0 where
  pub inside : place < length records
  pub holder_is : (d : Record) → (slice_index_or records place d).holder ≡ holder
  pub thing_is : (d : Record) → (slice_index_or records place d).thing ≡ thing

-- there is no such record, and it would come to stand at a place
pub record FitsAt (records : List Record) (holder thing place : ℕ) : Type 0 where
  pub inside : place ≤ length records
  pub before : (k : ℕ) (d : Record) → k < place → rank (slice_index_or records k d) < holder * 2 ^ 32 + thing
  pub after : (k : ℕ) (d : Record) → place ≤ k → k < length records → holder * 2 ^ 32 + thing < rank (slice_index_or records k d)

-- the bits of one pair were set: a record that has none goes, and uses follow
pub record IsWritten (old new : List Record) (old_uses new_uses : List ℕ) (holder thing : ℕ) (bits : Bits) : Type 0 where
  pub table : IsTable new
  pub uses_are : AreUses new new_uses
  pub numbers : length new_uses ≡ length old_uses
  pub sets : SetsRecord old new holder thing bits
  pub count : length new + record_count (bits_in old holder thing) ≡ length old + record_count bits
  pub counts : (n : ℕ) → number_uses new n + (if n == thing then record_count (bits_in old holder thing) else 0)
      ≡ number_uses old n + (if n == thing then record_count bits else 0)
