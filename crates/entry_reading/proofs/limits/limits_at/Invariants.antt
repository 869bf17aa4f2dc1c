use Rattle.entry_reading.proofs.OneByOne.{IsSoFar}
use Rattle.entry_reading.proofs.limits.limits_at.Given as goal

abbrev pub invariant-loop : goal.invariant-loop
invariant-loop l = IsSoFar l.count l.counter l.bytes l.limits l.rest
