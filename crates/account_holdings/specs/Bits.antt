-- Sets of privileges as bits.
use Rattle.std.specs.Prelude.{ℕ, Bool, ◌==◌}
use Rattle.std.specs.Int.{bit_at}

-- whether the bit of a number is set
abbrev pub has_bit : ℕ → ℕ → Bool
has_bit set number = bit_at set number == 1
