use Rattle.std.proofs.Common.{◌≡◌, filter, take}
use Rattle.row_tables.specs.Rooms.{LosesAtMost, room_of}
use Rattle.row_tables.specs.Tables.{state_of}
use Rattle.row_tables.specs.Layers.{is_in}
use Rattle.row_tables.specs.Lists.{without_rows}
use Rattle.row_tables.proofs.take.take_layer.Given as goal

abbrev pub invariant-loop-row : goal.invariant-loop-row
invariant-loop-row l = record {
  state : state_of l.rows ≡ without_rows (filter (is_in l.layer) (take l.row-index l.gone)) (state_of l.fn.rows);
  room : LosesAtMost 0 (room_of l.fn.rows) (room_of l.rows);
}
