use Rattle.std.proofs.Common.{◌<◌, ◌^◌, arith}
use Rattle.std.proofs.lemmas.Bool.{ltb-true, lt-ltb}
use Rattle.priv_sets.specs.StaticSet.{holds}
use Rattle.priv_sets.proofs.Bits.{set_bit, set_lt}
use Rattle.priv_sets.proofs.static_set.Static.with.Goals as goal

pub returns-clause-members : goal.returns-clause-members
unfolding holds
returns-clause-members c = λ q. let within : c.number.result < 32 = omega arith in rw (← c.number.ensures.same) (set_bit c.args.self.0 c.number.result q within)

pub returns-clause-known : goal.returns-clause-known
returns-clause-known c = λ known. lt-ltb _ (2 ^ 31) (set_lt c.args.self.0 c.number.result 31 c.number.ensures.below (omega arith) (ltb-true c.args.self.0 (2 ^ 31) known))
