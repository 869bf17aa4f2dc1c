use Rattle.row_tables.proofs.Beside.{privilege_beside, role_beside}
use Rattle.row_tables.specs.contracts.rows.Rows.{the_view}
use Rattle.row_tables.proofs.rows.Rows.options_stand_beside.Goals as goal

pub returns-clause-privileges : goal.returns-clause-privileges
returns-clause-privileges c = privilege_beside (the_view c.self.inside) c.args.self.now c.self.view_is c.self.invariant

pub returns-clause-roles : goal.returns-clause-roles
returns-clause-roles c = role_beside (the_view c.self.inside) c.args.self.now c.self.view_is c.self.invariant
