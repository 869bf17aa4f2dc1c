use Rattle.std.proofs.Common.{ap}
use Rattle.priv_sets.specs.declared.static_set.Static.{Static}
use Rattle.priv_sets.specs.StaticSet.{holds}
use Rattle.priv_sets.proofs.Bits.{same_sets}
use Rattle.priv_sets.proofs.laws.same_bits.Goals as goal

pub returns : goal.returns
unfolding holds
returns c = λ same. ap (λ bits. let set : Static = record { 0 = bits } in set) (same_sets c.args.a.0 c.args.b.0 same)
