use Rattle.priv_items.proofs.NamedColumns.{all_columns}
use Rattle.priv_items.proofs.columns.column_lists.Goals as goal

pub returns-clause-columns : goal.returns-clause-columns
returns-clause-columns c = all_columns c.args.items.now c.loop-number.lists c.loop-number.number c.loop-number-test.false c.requires.levels c.loop-number.invariant.2
