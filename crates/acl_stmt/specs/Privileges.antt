-- Lists of privileges.
use Rattle.std.specs.Prelude.{ℕ, Bool, true, ◌&&◌, ◌||◌, ◌==◌, ◌^◌, not, nat_lt, List, [], ◌∷◌}
use Rattle.acl_stmt.specs.Lists.{is_some_list}
use Rattle.acl_stmt.specs.declared.columns.ColumnPriv.{ColumnPriv}
use Rattle.priv_sets.specs.StaticSet.{bits_of, is_known}
use Rattle.priv_sets.specs.declared.static_set.Static.{Static}

-- the numbers of the privileges grow, from one above the last one on
abbrev pub are_in_order : List ColumnPriv → Bool
are_in_order [] = true
are_in_order (first ∷ []) = true
are_in_order (first ∷ second ∷ rest) = nat_lt first.privilege second.privilege && are_in_order (second ∷ rest)

-- privileges that exist, columns in order, and nothing beside ALL
unfoldable pub is_priv_list : Bool → Static → List ColumnPriv → ℕ → Bool
is_priv_list all plain columns dynamic =
    is_known plain && nat_lt dynamic (2 ^ 20) && are_in_order columns && (not all || bits_of plain == 0 && not (is_some_list columns) && dynamic == 0)
