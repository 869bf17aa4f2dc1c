use Rattle.acl_model.specs.Rows.{same_row}
use Rattle.acl_model.specs.declared.row.Row.TheVariants.{Column}
use Rattle.grant_effects.proofs.Adding.{all_listed, none_listed, one_listed}
use Rattle.grant_effects.proofs.columns.add_columns.Goals as goal

pub loop-name-init : goal.loop-name-init
loop-name-init c = none_listed c.args.rows.now.items (λ row name. same_row row (Column c.args.account.now c.args.schema.now c.args.table.now name c.args.columns.now.privilege))

pub loop-name-preserved : goal.loop-name-preserved
loop-name-preserved c =
    one_listed (λ row name. same_row row (Column c.args.account.now c.args.schema.now c.args.table.now name c.args.columns.now.privilege))
    c.as_slice-name-items.result.now c.loop-name.name-index c.name-item.result c.loop-name-test.true c.name-item.is c.loop-name.invariant c.in_ok-add_column.ensures

pub returns : goal.returns
returns c =
    all_listed (λ row name. same_row row (Column c.args.account.now c.args.schema.now c.args.table.now name c.args.columns.now.privilege))
    c.as_slice-name-items.result.now c.args.columns.now.names c.loop-name.name-index c.loop-name-test.false c.as_slice-name-items.ensures c.loop-name.invariant
