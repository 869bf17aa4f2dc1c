use Rattle.grant_effects.proofs.Adding.{all_listed, none_listed, nothing_added, one_listed}
use Rattle.grant_effects.proofs.Covering.{columns_done, columns_of, no_columns_elsewhere}
use Rattle.grant_effects.proofs.columns.add_column_rows.Goals as goal

pub returns-in_default : goal.returns-in_default
returns-in_default c = nothing_added _ _ (λ row. no_columns_elsewhere c.args.grant.now.privileges.now c.args.grant.now.target.now row _ c.in_default.not-Table)

pub loop-columns-init : goal.loop-columns-init
loop-columns-init c = none_listed c.args.rows.now.items (columns_of c.args.account.now c.in-Table.schema c.in-Table.table)

pub loop-columns-preserved : goal.loop-columns-preserved
loop-columns-preserved c =
    one_listed (columns_of c.args.account.now c.in-Table.schema c.in-Table.table) c.as_slice-columns-items.result.now
    c.loop-columns.columns-index c.columns-item.result c.loop-columns-test.true c.columns-item.is c.loop-columns.invariant c.in_ok-add_columns.ensures

pub returns : goal.returns
returns c =
    columns_done c.args.grant.now.privileges.now c.args.grant.now.target.now c.in-Table.schema c.in-Table.table c.args.account.now c.in-Table.is
    (all_listed (columns_of c.args.account.now c.in-Table.schema c.in-Table.table) c.as_slice-columns-items.result.now c.args.grant.now.privileges.now.columns
    c.loop-columns.columns-index c.loop-columns-test.false c.as_slice-columns-items.ensures c.loop-columns.invariant)
