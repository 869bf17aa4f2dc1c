use Rattle.std.proofs.Common.{◌≡◌, ◌≤◌, length, map, min, take}
use Rattle.acl_model.specs.State.{State}
use Rattle.row_tables.specs.Rooms.{room_of}
use Rattle.row_tables.specs.Tables.{state_of}
use Rattle.account_edits.proofs.Renaming.{first_pairs}
use Rattle.account_edits.specs.Renamed.{HaveBeenRenamed}
use Rattle.account_edits.proofs.rename.undo.Given as goal

-- what is left to be taken back
abbrev pub invariant-loop-name : goal.invariant-loop-name
invariant-loop-name l = record {
  state : (before : State) → state_of l.fn.rows ≡ first_pairs l.pairs l.done before → HaveBeenRenamed l.pairs l.done before
      → state_of l.rows ≡ first_pairs l.pairs (min l.done (length l.back.items)) before;
  names : l.back.items ≡ take (length l.back.items) (map (λ pair. pair.0) l.pairs);
  within : length l.back.items ≤ length l.pairs;
  room : length l.back.items ≤ (room_of l.rows).accounts;
}

abbrev pub decreases-loop-name : goal.decreases-loop-name
decreases-loop-name l = length l.back.items
