use Rattle.std.proofs.Common.{length}
use Rattle.held_bits.specs.Clearing.{HoldsLess}
use Rattle.held_bits.proofs.held_bits.HeldBits.clear_holder.Given as goal

abbrev pub invariant-loop-place : goal.invariant-loop-place
invariant-loop-place g l = HoldsLess g.K.PartialEq.eq l.initial.self l.self l.holder

abbrev pub decreases-loop-place : goal.decreases-loop-place
decreases-loop-place g l = length l.self.entries
