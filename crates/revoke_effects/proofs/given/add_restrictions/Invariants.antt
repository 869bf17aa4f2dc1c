use Rattle.std.proofs.Common.{◌≡◌, ◌++◌, take}
use Rattle.std.specs.List.{filter_map}
use Rattle.revoke_effects.specs.Given.{restriction_of}
use Rattle.revoke_effects.proofs.given.add_restrictions.Given as goal

abbrev pub invariant-loop-row : goal.invariant-loop-row
invariant-loop-row l = l.given.items ≡ l.initial.given.items ++ filter_map (restriction_of l.privileges l.schema) (take l.row-index l.held)
