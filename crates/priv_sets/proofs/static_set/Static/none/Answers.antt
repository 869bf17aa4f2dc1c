use Rattle.priv_sets.specs.StaticSet.{holds}
use Rattle.priv_sets.proofs.Bits.{zero_bits}
use Rattle.priv_sets.proofs.static_set.Static.none.Goals as goal

pub returns-clause-members : goal.returns-clause-members
unfolding holds
returns-clause-members c = zero_bits
