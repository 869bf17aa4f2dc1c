use Rattle.std.proofs.Common.{◌+◌, ◌*◌, arith}
use Rattle.mask_lanes.proofs.Counts.{number_with_more}
use Rattle.mask_lanes.proofs.count.count_vectors.Goals as goal

pub loop-vector-preserved : goal.loop-vector-preserved
loop-vector-preserved c =
    let vector = c.loop-vector.vector in
    let more = number_with_more c.args.mask 8 (vector * 8) ((vector + 1) * 8) c.args.masks.now (omega arith) in
    omega (arith, c.loop-vector.invariant, c.count_at.ensures, more)
