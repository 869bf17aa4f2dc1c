use Rattle.std.proofs.Common.{◌≡◌, ◌+◌, ◌-◌, ◌≤◌, length, drop}
use Rattle.std.specs.List.{prefix_len}
use Rattle.mandatory_roles.specs.Runs.{has}
use Rattle.mandatory_roles.proofs.runs.run_length.Given as goal

abbrev pub invariant-loop-length : goal.invariant-loop-length
invariant-loop-length l = record { within : l.length ≤ length l.bytes; left : prefix_len (has l.run) l.bytes ≡ l.length + prefix_len (has l.run) (drop l.length l.bytes) }

abbrev pub decreases-loop-length : goal.decreases-loop-length
decreases-loop-length l = length l.bytes - l.length
