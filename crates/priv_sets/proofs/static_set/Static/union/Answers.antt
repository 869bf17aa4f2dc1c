use Rattle.std.proofs.Common.{◌^◌}
use Rattle.std.proofs.lemmas.Bool.{ltb-true, lt-ltb}
use Rattle.std.proofs.lemmas.Nat.{or_lt}
use Rattle.priv_sets.specs.StaticSet.{holds}
use Rattle.priv_sets.proofs.Bits.{or_bits}
use Rattle.priv_sets.proofs.static_set.Static.union.Goals as goal

pub returns-clause-members : goal.returns-clause-members
unfolding holds
returns-clause-members c = or_bits c.args.self.0 c.args.other.0

pub returns-clause-known : goal.returns-clause-known
returns-clause-known c = λ known also. lt-ltb _ (2 ^ 31) (or_lt 31 c.args.self.0 c.args.other.0 (ltb-true _ (2 ^ 31) known) (ltb-true _ (2 ^ 31) also))
