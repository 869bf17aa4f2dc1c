-- Bits that are empty, and how many records they take.
use Rattle.std.specs.Prelude.{ℕ, Bool, ◌<◌, ◌^◌, ◌==◌, ◌&&◌, if◌then◌else◌}
use Rattle.held_bits.specs.declared.bits.Bits.{Bits}

-- nothing granted and nothing restricted
abbrev pub no_bits : Bits
no_bits = record { granted = 0; restricted = 0 }

-- whether nothing is granted and nothing restricted
abbrev pub are_none : Bits → Bool
are_none bits = (bits.granted == 0) && (bits.restricted == 0)

-- how many records keep these bits of a pair: none where they are empty
abbrev pub record_count : Bits → ℕ
record_count bits = if are_none bits then 0 else 1

-- bits of 32 places
abbrev pub AreWithin : Bits → Type 0
AreWithin bits = (bits.granted < 2 ^ 32) × (bits.restricted < 2 ^ 32)
