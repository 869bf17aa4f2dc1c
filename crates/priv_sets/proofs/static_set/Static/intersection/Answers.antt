use Rattle.priv_sets.specs.StaticSet.{holds}
use Rattle.priv_sets.proofs.Bits.{and_bits}
use Rattle.priv_sets.proofs.static_set.Static.intersection.Goals as goal

pub returns-clause-members : goal.returns-clause-members
unfolding holds
returns-clause-members c = and_bits c.args.self.0 c.args.other.0
