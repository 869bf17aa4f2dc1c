use Rattle.std.proofs.Common.{◌≡◌, ◌&&◌, take}
use Rattle.std.specs.List.{list_any}
use Rattle.acl_model.specs.Rows.{lists, same_row, some_name}
use Rattle.acl_model.specs.declared.row.Row.{Row}
use Rattle.row_tables.specs.Tables.{state_of}
use Rattle.row_tables.proofs.naming.rows_naming_any.Given as goal

abbrev pub invariant-loop-account : goal.invariant-loop-account
invariant-loop-account l = (row : Row) → list_any (same_row row) l.found.items
    ≡ ((state_of l.rows).rows row && some_name (lists (take l.account-index l.accounts)) row)
