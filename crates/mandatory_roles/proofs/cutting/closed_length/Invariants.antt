use Rattle.std.proofs.Common.{length, ◌-◌, ◌≤◌}
use Rattle.mandatory_roles.proofs.Closings.{IsSoFar}
use Rattle.mandatory_roles.proofs.cutting.closed_length.Given as goal

abbrev pub invariant-loop-length : goal.invariant-loop-length
invariant-loop-length l = record { within : l.length ≤ length l.inside; passed : IsSoFar l.inside l.length }

abbrev pub decreases-loop-length : goal.decreases-loop-length
decreases-loop-length l = length l.inside - l.length
