use Rattle.std.proofs.Common.{◌∙◌, ap, refl, not, ◌&&◌, ◌==◌}
use Rattle.std.proofs.Math.Bool.{and-true}
use Rattle.account_holdings.proofs.Changes.{object_granted}
use Rattle.account_holdings.specs.Bits.{has_bit}
use Rattle.account_holdings.specs.Holdings.{holds, same_holding}
use Rattle.account_holdings.specs.declared.holding.Holding.TheVariants.{OnObject}
use Rattle.account_holdings.specs.contracts.account_holdings.AccountHoldings.{the_view}
use Rattle.object_bits.specs.Kept.{only_granted}
use Rattle.object_bits.specs.Seen.{seen}
use Rattle.account_holdings.proofs.account_holdings.AccountHoldings.take_on_object.Goals as goal

pub returns-clause-without : goal.returns-clause-without
returns-clause-without c =
    λ holding. object_granted (λ x y. x && not y) and-true (the_view c.self.inside) c.replace.new.self c.args.account (seen c.args.object)
    (only_granted c.without_bit.result) c.replace.ensures.bits c.args.privilege
    (λ q. c.without_bit.ensures q ∙ ap (λ n. has_bit n q && not (q == c.args.privilege)) c.bits-before.ensures.is) holding
    ∙ ap (λ v. holds v holding && not (same_holding holding (OnObject c.args.account (seen c.args.object) c.args.privilege))) c.self.view_is
