use Rattle.std.proofs.Common.{◌≡◌, ◌∙◌, ap, sym, refl, Bool, true, false, ◌||◌, ◌==◌}
use Rattle.std.proofs.Math.Bool.{or-false}
use Rattle.account_holdings.proofs.Changes.{default_changes}
use Rattle.account_holdings.specs.Holdings.{holds, same_holding}
use Rattle.account_holdings.specs.declared.holding.Holding.TheVariants.{Default}
use Rattle.account_holdings.specs.contracts.account_holdings.AccountHoldings.{the_view}
use Rattle.account_holdings.proofs.account_holdings.AccountHoldings.put_default.Goals as goal

or_last : (x : Bool) → true ≡ (x || true)
or_last true = refl
or_last false = refl

pub returns-clause-with : goal.returns-clause-with
returns-clause-with c =
    λ holding. default_changes (λ x y. x || y) or-false (the_view c.self.inside) c.set.new.self c.args.of c.args.role
    (record { granted = 1; restricted = 0 }) c.set.ensures.bits (or_last (holds (the_view c.self.inside) (Default c.args.of c.args.role))) holding
    ∙ ap (λ v. holds v holding || same_holding holding (Default c.args.of c.args.role)) c.self.view_is
