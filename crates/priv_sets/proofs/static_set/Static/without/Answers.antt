use Rattle.std.proofs.Common.{◌<◌, arith}
use Rattle.priv_sets.specs.StaticSet.{holds}
use Rattle.priv_sets.proofs.Bits.{clear_bit}
use Rattle.priv_sets.proofs.static_set.Static.without.Goals as goal

pub returns-clause-members : goal.returns-clause-members
unfolding holds
returns-clause-members c = λ q. let within : c.number.result < 32 = omega arith in rw (← c.number.ensures.same) (clear_bit c.args.self.0 c.number.result q (omega arith) within)
