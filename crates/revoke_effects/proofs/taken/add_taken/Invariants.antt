use Rattle.std.proofs.Common.{◌≡◌, ◌++◌, filter, take}
use Rattle.revoke_effects.specs.Taken.{taken_at}
use Rattle.revoke_effects.proofs.taken.add_taken.Given as goal

abbrev pub invariant-loop-row : goal.invariant-loop-row
invariant-loop-row l = l.taken.items ≡ l.initial.taken.items ++ filter (taken_at l.privileges l.target) (take l.row-index l.held)
