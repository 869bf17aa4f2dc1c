use Rattle.std.proofs.Common.{◌≡◌, [], take}
use Rattle.std.specs.List.{list_any}
use Rattle.acl_model.specs.Effects.{gives}
use Rattle.acl_model.specs.Rows.{same_row}
use Rattle.acl_model.specs.declared.row.Row.{Row}
use Rattle.acl_rows.specs.Tables.{state_of}
use Rattle.acl_stmt.specs.declared.statement.Statement.TheVariants.{Revoke}
use Rattle.acl_stmt.specs.declared.target.Target.TheVariants as on
use Rattle.revoke_effects.proofs.given.restrictions.Given as goal

abbrev pub invariant-loop-account : goal.invariant-loop-account
invariant-loop-account l =
    (row : Row) → list_any (same_row row) l.given.items ≡ gives [] (Revoke l.privileges (on.Schema l.schema) (take l.account-index l.accounts)) (state_of l.before) row
