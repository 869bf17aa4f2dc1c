-- What a set of static privileges holds.
use Rattle.std.specs.Prelude.{ℕ, Bool, ◌==◌, ◌&&◌, ◌^◌, not, nat_lt, List, filter}
use Rattle.std.specs.Int.{bit_at}
use Rattle.std.specs.List.{range_with_len}
use Rattle.priv_sets.specs.declared.static_set.Static.{Static}

-- whether the set holds the privilege of a number
unfoldable pub holds : Static → ℕ → Bool
holds set number = bit_at set.0 number == 1

-- the set as a number: bit i stands for the privilege of number i
abbrev pub bits_of : Static → ℕ
bits_of set = set.0

-- whether each bit stands for a privilege
abbrev pub is_known : Static → Bool
is_known set = nat_lt (bits_of set) (2 ^ 31)

-- whether the first set holds the privilege of a number and the second does not
abbrev pub is_missing : Static → Static → ℕ → Bool
is_missing wanted held number = holds wanted number && not (holds held number)

-- the numbers of the privileges that the set holds, in order
unfoldable pub members : Static → List ℕ
members set = filter (holds set) (range_with_len 0 31)
