use Rattle.std.proofs.Common.{◌≡◌, ◌≤◌, ◌-◌, [], IsTrue, length}
use Rattle.std.specs.List.{list_any}
use Rattle.acl_model.specs.Rows.{same_row}
use Rattle.acl_model.specs.declared.row.Row.{Row}
use Rattle.row_tables.specs.Lists.{IsReadyAmong, with_rows}
use Rattle.row_tables.specs.Rooms.{LosesAtMost, RowsFitIn, room_of}
use Rattle.row_tables.specs.Tables.{state_of}
use Rattle.row_edits.proofs.come.put_each.Given as goal

-- what is left to come, and what has come
abbrev pub invariant-loop-row : goal.invariant-loop-row
invariant-loop-row l = record {
  state : with_rows l.come.items (state_of l.rows) ≡ with_rows l.fn.come.items (state_of l.fn.rows);
  ready : (row : Row) → IsTrue (list_any (same_row row) l.come.items) → IsReadyAmong (state_of l.rows) [] row;
  room : RowsFitIn (length l.come.items) (room_of l.rows);
  lost : LosesAtMost (length l.fn.come.items - length l.come.items) (room_of l.fn.rows) (room_of l.rows);
  fewer : length l.come.items ≤ length l.fn.come.items;
}

abbrev pub decreases-loop-row : goal.decreases-loop-row
decreases-loop-row l = length l.come.items
