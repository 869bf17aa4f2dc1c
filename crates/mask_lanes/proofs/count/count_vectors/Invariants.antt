use Rattle.std.proofs.Common.{◌≡◌, ◌*◌, take}
use Rattle.mask_lanes.specs.Words.{number_with}
use Rattle.mask_lanes.proofs.count.count_vectors.Given as goal

abbrev pub invariant-loop-vector : goal.invariant-loop-vector
invariant-loop-vector l = l.count ≡ number_with l.mask (take (l.vector * 8) l.masks)
