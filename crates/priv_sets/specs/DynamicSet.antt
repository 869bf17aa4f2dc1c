-- What a set of dynamic privileges holds.
use Rattle.std.specs.Prelude.{ℕ, Bool, ◌==◌, ◌&&◌, ◌||◌, not, List, filter}
use Rattle.std.specs.Int.{bit_at}
use Rattle.std.specs.List.{range_with_len}
use Rattle.priv_sets.specs.declared.dynamic_set.DynSet.{DynSet}

-- whether the set holds the dynamic privilege of a number
unfoldable pub holds_dynamic : DynSet → ℕ → Bool
holds_dynamic set number = bit_at set.held number == 1

-- whether the set holds the grant option of the dynamic privilege of a number
unfoldable pub grants_dynamic : DynSet → ℕ → Bool
grants_dynamic set number = bit_at set.grantable number == 1

-- whether a dynamic privilege, or its grant option, is in the first set and not in the second
abbrev pub is_missing_dynamic : DynSet → DynSet → ℕ → Bool
is_missing_dynamic wanted held number =
    (holds_dynamic wanted number && not (holds_dynamic held number)) || (grants_dynamic wanted number && not (grants_dynamic held number))

-- the numbers of the privileges that the set holds, in order
unfoldable pub dynamic_members : DynSet → List ℕ
dynamic_members set = filter (holds_dynamic set) (range_with_len 0 20)
