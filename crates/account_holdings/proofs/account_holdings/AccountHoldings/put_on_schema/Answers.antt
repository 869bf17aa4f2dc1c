use Rattle.std.proofs.Common.{◌∙◌, ap, refl, ◌||◌, ◌==◌}
use Rattle.std.proofs.Math.Bool.{or-false}
use Rattle.account_holdings.proofs.Changes.{schema_granted}
use Rattle.account_holdings.specs.Bits.{has_bit}
use Rattle.account_holdings.specs.Holdings.{holds, same_holding}
use Rattle.account_holdings.specs.declared.holding.Holding.TheVariants.{OnSchema}
use Rattle.account_holdings.specs.contracts.account_holdings.AccountHoldings.{the_view}
use Rattle.account_holdings.proofs.account_holdings.AccountHoldings.put_on_schema.Goals as goal

pub returns-clause-with : goal.returns-clause-with
returns-clause-with c =
    let restricted_is = ap (λ b. b.restricted) c.bits-before.ensures.is in
    λ holding. schema_granted (λ x y. x || y) or-false (the_view c.self.inside) c.set.new.self c.args.account c.args.schema
    (record { granted = c.with_bit.result; restricted = c.bits-before.result.restricted }) c.set.ensures.bits c.args.privilege
    (λ q. c.with_bit.ensures q ∙ ap (λ b. has_bit b.granted q || (q == c.args.privilege)) c.bits-before.ensures.is) restricted_is holding
    ∙ ap (λ v. holds v holding || same_holding holding (OnSchema c.args.account c.args.schema c.args.privilege)) c.self.view_is
