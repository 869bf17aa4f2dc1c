-- How what is held on objects is kept: entries on keys, and names that are counted.
use Rattle.std.specs.Prelude.{◌≡◌, ℕ, ◌+◌, ◌≤◌, List, length, slice_index, if◌then◌else◌}
use Rattle.held_bits.specs.declared.bits.Bits.{Bits}
use Rattle.held_bits.specs.Bits.{are_none, record_count}
use Rattle.held_bits.specs.HeldBits.{Entry, SetsBits, bits_at}
use Rattle.held_bits.specs.Records.{record_limit}
use Rattle.object_bits.specs.Keys.{key_uses, name_uses, same_key}
use Rattle.object_bits.specs.declared.key.Key.{Key}

-- bits that are granted, where none are restricted
abbrev pub only_granted : ℕ → Bits
only_granted granted = record { granted = granted; restricted = 0 }

-- each name counts its keys, and nothing is restricted
pub record IsKept (uses : List ℕ) (entries : List (Entry Key)) : Type 0 where
  pub counts : (number : ℕ) → slice_index uses number ≡ name_uses entries number
  pub few : length entries ≤ record_limit
  pub unrestricted : (holder : ℕ) (thing : Key) → (bits_at same_key entries holder thing).restricted ≡ 0

-- how often an entry with these bits has a number, where its key has it so often
abbrev pub uses_with : Bits → ℕ → ℕ
uses_with bits uses = if are_none bits then 0 else uses

-- the bits of one pair were set, and so often do keys have a number since
pub record IsSet (old new : List (Entry Key)) (holder : ℕ) (key : Key) (bits : Bits) : Type 0 where
  pub sets : SetsBits same_key old new holder key bits
  pub count : length new + record_count (bits_at same_key old holder key) ≡ length old + record_count bits
  pub uses : (number : ℕ) → name_uses new number + uses_with (bits_at same_key old holder key) (key_uses number key)
      ≡ name_uses old number + uses_with bits (key_uses number key)
