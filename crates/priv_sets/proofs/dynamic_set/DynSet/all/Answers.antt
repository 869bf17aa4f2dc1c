use Rattle.priv_sets.specs.DynamicSet.{holds_dynamic, grants_dynamic}
use Rattle.priv_sets.proofs.Bits.{ones_bits}
use Rattle.priv_sets.proofs.dynamic_set.DynSet.all.Goals as goal

pub returns-clause-held : goal.returns-clause-held
unfolding holds_dynamic grants_dynamic
returns-clause-held c = ones_bits 20

pub returns-clause-grantable : goal.returns-clause-grantable
unfolding holds_dynamic grants_dynamic
returns-clause-grantable c = ones_bits 20
