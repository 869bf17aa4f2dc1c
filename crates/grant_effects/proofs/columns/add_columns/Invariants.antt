use Rattle.std.proofs.Common.{take}
use Rattle.std.specs.List.{list_any}
use Rattle.acl_model.specs.Rows.{same_row}
use Rattle.acl_model.specs.declared.row.Row.TheVariants.{Column}
use Rattle.grant_effects.specs.Lists.{Adds}
use Rattle.grant_effects.proofs.columns.add_columns.Given as goal

abbrev pub invariant-loop-name : goal.invariant-loop-name
invariant-loop-name l =
    Adds (λ row. list_any (λ name. same_row row (Column l.account l.schema l.table name l.columns.privilege)) (take l.name-index l.name-items)) l.initial.rows.items l.rows.items
