-- Whose holding it is.
use Rattle.std.specs.Prelude.{ℕ}
use Rattle.account_holdings.specs.declared.holding.Holding.{Holding}
use Rattle.account_holdings.specs.declared.holding.Holding.TheVariants.{OnAll, OnSchema, Restricted, OnObject, Edge, Admin, Default}

-- the number of the account that has a holding
abbrev pub holder_of : Holding → ℕ
holder_of (OnAll kind n p) = n
holder_of (OnSchema n s p) = n
holder_of (Restricted n s p) = n
holder_of (OnObject n o p) = n
holder_of (Edge role to) = to
holder_of (Admin role to) = to
holder_of (Default of role) = of
