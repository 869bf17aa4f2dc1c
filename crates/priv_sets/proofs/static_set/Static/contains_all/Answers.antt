use Rattle.std.proofs.lemmas.Bool.{eqb-true, eq-eqb}
use Rattle.priv_sets.specs.StaticSet.{holds}
use Rattle.priv_sets.proofs.Bits.{none_from_inside, inside_from_none}
use Rattle.priv_sets.proofs.static_set.Static.contains_all.Goals as goal

pub returns : goal.returns
unfolding holds
returns c = (λ inside q. none_from_inside c.args.self.0 c.args.other.0 q (eqb-true _ _ inside), λ none. eq-eqb _ _ (inside_from_none c.args.self.0 c.args.other.0 none))
