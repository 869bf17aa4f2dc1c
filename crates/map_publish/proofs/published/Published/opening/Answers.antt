use Rattle.std.proofs.Common.{◌∙◌, ap, sym, arith, rules}
use Rattle.std.proofs.lemmas.Grind.{common_steps}
use Rattle.acl_model.specs.Effects.{state_after}
use Rattle.acl_model.specs.State.{opening as opening_state}
use Rattle.map_publish.proofs.Histories.{after_none}
use Rattle.map_publish.proofs.published.Published.opening.Goals as goal

pub invariant_of-result : goal.invariant_of-result
invariant_of-result c = record {
  within = first_of (search rules, grind (arith, common_steps));
  stands = c.in_ok-opening.ensures ∙ sym (after_none opening_state) ∙ ap (λ list. state_after list opening_state) (sym c.new.ensures.items);
}
