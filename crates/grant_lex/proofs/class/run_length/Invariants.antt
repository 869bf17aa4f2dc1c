use Rattle.std.proofs.Common.{length, take, ◌-◌, ◌≤◌}
use Rattle.std.specs.List.{AllByRecursion}
use Rattle.grant_lex.specs.Next.{IsOf}
use Rattle.grant_lex.proofs.class.run_length.Given as goal

abbrev pub invariant-loop-length : goal.invariant-loop-length
invariant-loop-length l = record { within : l.length ≤ length l.bytes; each : AllByRecursion (IsOf l.class) (take l.length l.bytes) }

abbrev pub decreases-loop-length : goal.decreases-loop-length
decreases-loop-length l = length l.bytes - l.length
