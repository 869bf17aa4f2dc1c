use Rattle.std.proofs.Common.{◌≡◌, ◌*◌}
use Rattle.mask_lanes.proofs.Fronts.{front_merged}
use Rattle.mask_lanes.proofs.merge.merge_vectors.Given as goal

abbrev pub invariant-loop-vector : goal.invariant-loop-vector
invariant-loop-vector g l = l.to ≡ front_merged g.M.Merge.merged (l.vector * 8) l.initial.to l.from
