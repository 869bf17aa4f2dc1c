use Rattle.std.proofs.Common.{◌≡◌, ℕ, [], IsTrue, if◌then◌else◌}
use Rattle.std.specs.List.{list_all}
use Rattle.std.specs.Prelude.{nat_lt}
use Rattle.acl_stmt.specs.Privileges.{are_in_order}
use Rattle.priv_items.specs.Meaning.{columns_on, each_once}
use Rattle.priv_items.specs.Naming.{columns_of}
use Rattle.priv_items.proofs.columns.column_lists.Given as goal

abbrev pub invariant-loop-number : goal.invariant-loop-number
invariant-loop-number l =
    IsTrue (are_in_order l.lists)
    × IsTrue (list_all (λ listed. nat_lt listed.privilege l.number) l.lists)
    × ((q : ℕ) → columns_on l.lists q ≡ (if nat_lt q l.number then each_once (columns_of l.items q) else []))
