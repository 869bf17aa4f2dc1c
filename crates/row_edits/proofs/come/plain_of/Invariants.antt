use Rattle.std.proofs.Common.{◌≡◌, filter, take}
use Rattle.row_edits.specs.Layers.{is_plain}
use Rattle.row_edits.proofs.come.plain_of.Given as goal

abbrev pub invariant-loop-row : goal.invariant-loop-row
invariant-loop-row l = l.plain.items ≡ filter is_plain (take l.row-index l.rows)
