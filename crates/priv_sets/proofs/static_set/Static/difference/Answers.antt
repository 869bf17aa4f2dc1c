use Rattle.std.proofs.Common.{arith}
use Rattle.priv_sets.specs.StaticSet.{holds}
use Rattle.priv_sets.proofs.Bits.{and_not_bits}
use Rattle.priv_sets.proofs.static_set.Static.difference.Goals as goal

pub returns-clause-members : goal.returns-clause-members
unfolding holds
returns-clause-members c = λ q. and_not_bits c.args.self.0 c.args.other.0 q (omega arith) (omega arith)
