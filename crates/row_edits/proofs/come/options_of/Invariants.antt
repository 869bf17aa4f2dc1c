use Rattle.std.proofs.Common.{◌≡◌, filter, take}
use Rattle.row_edits.specs.Layers.{is_option}
use Rattle.row_edits.proofs.come.options_of.Given as goal

abbrev pub invariant-loop-row : goal.invariant-loop-row
invariant-loop-row l = l.options.items ≡ filter is_option (take l.row-index l.rows)
