use Rattle.std.proofs.Common.{take}
use Rattle.std.specs.List.{list_any}
use Rattle.acl_model.specs.Rows.{same_row}
use Rattle.acl_model.specs.declared.row.Row.TheVariants.{Column}
use Rattle.grant_effects.specs.Lists.{Adds}
use Rattle.grant_effects.proofs.columns.add_column_rows.Given as goal

abbrev pub invariant-loop-columns : goal.invariant-loop-columns
invariant-loop-columns l =
    Adds (λ row. list_any (λ columns. list_any (λ name. same_row row (Column l.account l.schema l.table name columns.privilege)) columns.names) (take l.columns-index l.columns-items)) l.initial.rows.items l.rows.items
