use Rattle.std.proofs.Common.{◌≡◌, ◌≤◌, length}
use Rattle.row_tables.specs.Rooms.{room_of}
use Rattle.row_tables.specs.Tables.{state_of}
use Rattle.account_edits.specs.Renamed.{AreLegal, renamed_in}
use Rattle.account_edits.proofs.rename.rename_all.Given as goal

abbrev pub invariant-loop-old : goal.invariant-loop-old
invariant-loop-old l = record {
  state : renamed_in l.pairs.items (state_of l.rows) ≡ renamed_in l.fn.pairs.items (state_of l.fn.rows);
  legal : AreLegal l.pairs.items (state_of l.rows);
  room : length l.pairs.items ≤ (room_of l.rows).accounts;
}

abbrev pub decreases-loop-old : goal.decreases-loop-old
decreases-loop-old l = length l.pairs.items
