use Rattle.std.proofs.Common.{◌∙◌, ap}
use Rattle.account_holdings.proofs.Changes.{alike_parts}
use Rattle.account_holdings.specs.Holdings.{holds}
use Rattle.account_holdings.specs.contracts.account_holdings.AccountHoldings.{the_view}
use Rattle.account_holdings.proofs.account_holdings.AccountHoldings.copy.Goals as goal

pub returns-clause-alike : goal.returns-clause-alike
returns-clause-alike c = λ holding.
    alike_parts (the_view c.self.inside) (the_view (record { globals = c.in_ok-from_slice.field-0; schemas = c.in_ok-copy.field-0; objects = c.in_ok-copy-2.field-0; roles = c.in_ok-copy-3.field-0; defaults = c.in_ok-copy-4.field-0 }))
    (c.in_ok-from_slice.ensures.items ∙ c.deref.ensures.value) c.in_ok-copy.ensures c.in_ok-copy-2.ensures c.in_ok-copy-3.ensures c.in_ok-copy-4.ensures holding
    ∙ ap (λ v. holds v holding) c.self.view_is
