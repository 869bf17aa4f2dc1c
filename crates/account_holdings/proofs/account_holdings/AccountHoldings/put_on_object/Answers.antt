use Rattle.std.proofs.Common.{◌∙◌, ap, refl, ◌||◌, ◌==◌}
use Rattle.std.proofs.Math.Bool.{or-false}
use Rattle.account_holdings.proofs.Changes.{object_granted}
use Rattle.account_holdings.specs.Bits.{has_bit}
use Rattle.account_holdings.specs.Holdings.{holds, same_holding}
use Rattle.account_holdings.specs.declared.holding.Holding.TheVariants.{OnObject}
use Rattle.account_holdings.specs.contracts.account_holdings.AccountHoldings.{the_view}
use Rattle.held_bits.specs.HeldBits.{bits_at}
use Rattle.object_bits.specs.Kept.{only_granted}
use Rattle.object_bits.specs.Objects.{same_object}
use Rattle.account_holdings.proofs.account_holdings.AccountHoldings.put_on_object.Goals as goal

pub returns-clause-with : goal.returns-clause-with
returns-clause-with c =
    let reads = c.bits-before.ensures.is ∙ ap (λ o. (bits_at same_object c.self.inside.objects.entries c.args.account o).granted) c.by_reference.ensures in
    λ holding. object_granted (λ x y. x || y) or-false (the_view c.self.inside) c.put.new.self c.args.account c.args.object
    (only_granted c.with_bit.result) c.put.ensures.bits c.args.privilege
    (λ q. c.with_bit.ensures q ∙ ap (λ n. has_bit n q || (q == c.args.privilege)) reads) holding
    ∙ ap (λ v. holds v holding || same_holding holding (OnObject c.args.account c.args.object c.args.privilege)) c.self.view_is
