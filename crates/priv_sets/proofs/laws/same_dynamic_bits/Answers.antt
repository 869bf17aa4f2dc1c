use Rattle.priv_sets.specs.DynamicSet.{holds_dynamic, grants_dynamic}
use Rattle.priv_sets.proofs.Bits.{same_sets}
use Rattle.priv_sets.proofs.DynamicSets.{same_set}
use Rattle.priv_sets.proofs.laws.same_dynamic_bits.Goals as goal

pub returns : goal.returns
unfolding holds_dynamic grants_dynamic
returns c = λ held grantable. same_set c.args.a c.args.b (same_sets c.args.a.held c.args.b.held held) (same_sets c.args.a.grantable c.args.b.grantable grantable)
