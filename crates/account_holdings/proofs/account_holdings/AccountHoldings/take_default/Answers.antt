use Rattle.std.proofs.Common.{◌≡◌, ◌∙◌, ap, sym, refl, Bool, true, false, not, ◌&&◌, ◌==◌}
use Rattle.std.proofs.Math.Bool.{and-true}
use Rattle.account_holdings.proofs.Changes.{default_changes}
use Rattle.account_holdings.specs.Holdings.{holds, same_holding}
use Rattle.account_holdings.specs.declared.holding.Holding.TheVariants.{Default}
use Rattle.account_holdings.specs.contracts.account_holdings.AccountHoldings.{the_view}
use Rattle.held_bits.specs.Bits.{no_bits}
use Rattle.account_holdings.proofs.account_holdings.AccountHoldings.take_default.Goals as goal

and_last : (x : Bool) → false ≡ (x && false)
and_last true = refl
and_last false = refl

pub returns-clause-without : goal.returns-clause-without
returns-clause-without c =
    λ holding. default_changes (λ x y. x && not y) and-true (the_view c.self.inside) c.clear.new.self c.args.of c.args.role
    no_bits c.clear.ensures.bits (and_last (holds (the_view c.self.inside) (Default c.args.of c.args.role))) holding
    ∙ ap (λ v. holds v holding && not (same_holding holding (Default c.args.of c.args.role))) c.self.view_is
