use Rattle.std.proofs.Common.{ap, ◌==◌}
use Rattle.std.proofs.lemmas.Nat.Bits.{shr_and_one}
use Rattle.priv_sets.specs.DynamicSet.{holds_dynamic, grants_dynamic}
use Rattle.priv_sets.proofs.dynamic_set.DynSet.has.Goals as goal

pub returns : goal.returns
unfolding holds_dynamic grants_dynamic
returns c = rw (← c.number.ensures.same) (ap (λ bit. bit == 1) (shr_and_one c.args.self.held c.number.result))
