use Rattle.std.proofs.Common.{◌≡◌, filter, take}
use Rattle.acl_rows.specs.Tables.{state_of}
use Rattle.acl_rows.specs.Layers.{is_in}
use Rattle.acl_rows.specs.Lists.{with_rows}
use Rattle.acl_rows.proofs.put.put_layer.Given as goal

abbrev pub invariant-loop-row : goal.invariant-loop-row
invariant-loop-row l = state_of l.rows ≡ with_rows (filter (is_in l.layer) (take l.row-index l.come)) (state_of l.fn.rows)
