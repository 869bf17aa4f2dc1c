use Rattle.row_tables.proofs.Alike.{room_told}
use Rattle.row_tables.specs.contracts.rows.Rows.{the_view}
use Rattle.row_tables.proofs.rows.Rows.has_room.Goals as goal

pub returns : goal.returns
returns c = room_told (the_view c.self.inside) c.args.self.now c.self.view_is c.self.invariant c.len.result c.len.ensures
