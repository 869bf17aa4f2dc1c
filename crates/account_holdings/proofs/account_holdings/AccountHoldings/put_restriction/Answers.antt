use Rattle.std.proofs.Common.{◌∙◌, ap, refl, ◌||◌, ◌==◌}
use Rattle.std.proofs.Math.Bool.{or-false}
use Rattle.account_holdings.proofs.Changes.{schema_restricted}
use Rattle.account_holdings.specs.Bits.{has_bit}
use Rattle.account_holdings.specs.Holdings.{holds, same_holding}
use Rattle.account_holdings.specs.declared.holding.Holding.TheVariants.{Restricted}
use Rattle.account_holdings.specs.contracts.account_holdings.AccountHoldings.{the_view}
use Rattle.account_holdings.proofs.account_holdings.AccountHoldings.put_restriction.Goals as goal

pub returns-clause-with : goal.returns-clause-with
returns-clause-with c =
    let granted_is = ap (λ b. b.granted) c.bits-before.ensures.is in
    λ holding. schema_restricted (λ x y. x || y) or-false (the_view c.self.inside) c.set.new.self c.args.account c.args.schema
    (record { granted = c.bits-before.result.granted; restricted = c.with_bit.result }) c.set.ensures.bits c.args.privilege
    (λ q. c.with_bit.ensures q ∙ ap (λ b. has_bit b.restricted q || (q == c.args.privilege)) c.bits-before.ensures.is) granted_is holding
    ∙ ap (λ v. holds v holding || same_holding holding (Restricted c.args.account c.args.schema c.args.privilege)) c.self.view_is
