use Rattle.priv_sets.specs.DynamicSet.{holds_dynamic, grants_dynamic}
use Rattle.priv_sets.proofs.Bits.{zero_bits}
use Rattle.priv_sets.proofs.dynamic_set.DynSet.none.Goals as goal

pub returns-clause-held : goal.returns-clause-held
unfolding holds_dynamic grants_dynamic
returns-clause-held c = zero_bits

pub returns-clause-grantable : goal.returns-clause-grantable
unfolding holds_dynamic grants_dynamic
returns-clause-grantable c = zero_bits
