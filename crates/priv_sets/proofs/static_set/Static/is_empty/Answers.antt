use Rattle.std.proofs.Common.{ap, ◌==◌}
use Rattle.std.proofs.lemmas.Bool.{eqb-true, eq-eqb}
use Rattle.std.specs.Int.{bit_at}
use Rattle.std.proofs.Common.{◌∙◌}
use Rattle.priv_sets.specs.StaticSet.{holds}
use Rattle.priv_sets.proofs.Bits.{zero_bits, empty_from_none}
use Rattle.priv_sets.proofs.static_set.Static.is_empty.Goals as goal

pub returns : goal.returns
unfolding holds
returns c = (λ empty q. ap (λ n. bit_at n q == 1) (eqb-true c.args.self.0 0 empty) ∙ zero_bits q, λ none. eq-eqb c.args.self.0 0 (empty_from_none c.args.self.0 none))
