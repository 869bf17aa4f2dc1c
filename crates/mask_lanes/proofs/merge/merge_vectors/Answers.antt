use Rattle.std.proofs.Common.{◌∙◌, arith}
use Rattle.mask_lanes.proofs.Fronts.{front_merged_vector}
use Rattle.mask_lanes.proofs.merge.merge_vectors.Goals as goal

pub loop-vector-preserved : goal.loop-vector-preserved
loop-vector-preserved g c =
    c.merge_at.ensures
    ∙ front_merged_vector g.M.Merge.merged 8 _ _ _ _ _ c.loop-vector.invariant (omega arith) (omega arith) c.requires.lengths
