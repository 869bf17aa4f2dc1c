use Rattle.std.proofs.Common.{ap, ◌==◌, ◌∙◌}
use Rattle.std.proofs.lemmas.Bool.{eqb-true, eq-eqb}
use Rattle.std.specs.Int.{bit_at}
use Rattle.priv_sets.specs.DynamicSet.{holds_dynamic, grants_dynamic}
use Rattle.priv_sets.proofs.Bits.{zero_bits, empty_from_none}
use Rattle.priv_sets.proofs.dynamic_set.DynSet.is_empty.Goals as goal

pub returns : goal.returns
unfolding holds_dynamic grants_dynamic
returns c = (λ empty q. ap (λ n. bit_at n q == 1) (eqb-true c.args.self.held 0 empty) ∙ zero_bits q, λ none. eq-eqb c.args.self.held 0 (empty_from_none c.args.self.held none))
