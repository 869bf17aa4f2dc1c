use Rattle.std.proofs.Common.{◌≡◌, ◌&&◌, [], take}
use Rattle.std.specs.List.{list_any}
use Rattle.acl_model.specs.Effects.{takes}
use Rattle.acl_model.specs.Rows.{same_row}
use Rattle.acl_model.specs.declared.row.Row.{Row}
use Rattle.acl_rows.specs.Tables.{state_of}
use Rattle.acl_stmt.specs.declared.statement.Statement.TheVariants.{Revoke}
use Rattle.revoke_effects.proofs.taken.rows_taken.Given as goal

abbrev pub invariant-loop-account : goal.invariant-loop-account
invariant-loop-account l =
    (row : Row) → list_any (same_row row) l.taken.items
    ≡ ((state_of l.before).rows row && takes [] (Revoke l.privileges l.target (take l.account-index l.accounts)) row)
