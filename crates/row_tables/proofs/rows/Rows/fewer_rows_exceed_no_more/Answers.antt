use Rattle.row_tables.proofs.FewerRows.{fewer_exceed}
use Rattle.row_tables.specs.contracts.rows.Rows.{the_view}
use Rattle.row_tables.proofs.rows.Rows.fewer_rows_exceed_no_more.Goals as goal

pub returns : goal.returns
returns c =
    fewer_exceed (the_view c.self.inside) c.args.self.now c.self.view_is c.self.invariant
    (rw (← c.schemas.ensures) c.is_sound.ensures) (rw (← c.objects.ensures) c.is_sound-2.ensures.sound) (rw (← c.objects.ensures) c.is_sound-2.ensures.unrestricted)
    (rw (← c.roles.ensures) c.lists_each_edge_once.ensures.once) (rw (← c.defaults.ensures) c.is_sound-3.ensures)
