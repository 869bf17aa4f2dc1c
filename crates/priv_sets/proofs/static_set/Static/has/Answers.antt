use Rattle.std.proofs.Common.{ap, ◌==◌}
use Rattle.std.proofs.lemmas.Nat.Bits.{shr_and_one}
use Rattle.priv_sets.specs.StaticSet.{holds}
use Rattle.priv_sets.proofs.static_set.Static.has.Goals as goal

pub returns : goal.returns
unfolding holds
returns c = rw (← c.number.ensures.same) (ap (λ bit. bit == 1) (shr_and_one c.args.self.0 c.number.result))
