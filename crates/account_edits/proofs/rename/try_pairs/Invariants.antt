use Rattle.std.proofs.Common.{◌≡◌, ◌≤◌, drop, length}
use Rattle.acl_model.specs.Refusals.{no_renaming}
use Rattle.acl_model.specs.State.{stands}
use Rattle.row_tables.specs.Rooms.{LosesAtMost, room_of}
use Rattle.row_tables.specs.Tables.{state_of}
use Rattle.account_edits.proofs.Renaming.{first_pairs}
use Rattle.account_edits.specs.Renamed.{HaveBeenRenamed}
use Rattle.account_edits.proofs.rename.try_pairs.Given as goal

-- the pairs so far
abbrev pub invariant-loop-pair : goal.invariant-loop-pair
invariant-loop-pair l = record {
  count : l.done ≡ l.pair-index;
  state : state_of l.rows ≡ first_pairs l.pairs l.pair-index (state_of l.fn.rows);
  left : no_renaming (stands (state_of l.fn.rows)) l.pairs ≡ no_renaming (stands (state_of l.rows)) (drop l.pair-index l.pairs);
  way : HaveBeenRenamed l.pairs l.pair-index (state_of l.fn.rows);
  room : LosesAtMost l.pair-index (room_of l.fn.rows) (room_of l.rows);
}
