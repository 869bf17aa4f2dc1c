use Rattle.std.proofs.Common.{◌≡◌}
use Rattle.mask_lanes.proofs.Fronts.{front_merged}
use Rattle.mask_lanes.proofs.merge.merge_words.Given as goal

abbrev pub invariant-loop-at : goal.invariant-loop-at
invariant-loop-at g l = l.to ≡ front_merged g.M.Merge.merged l.at l.initial.to l.from
