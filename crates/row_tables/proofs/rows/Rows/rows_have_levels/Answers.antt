use Rattle.row_tables.proofs.Beside.{level_of_each}
use Rattle.row_tables.specs.contracts.rows.Rows.{the_view}
use Rattle.row_tables.proofs.rows.Rows.rows_have_levels.Goals as goal

pub returns : goal.returns
returns c = level_of_each (the_view c.self.inside) c.args.self.now c.self.view_is c.self.invariant
