-- What becomes of the holdings as a row comes or goes.
use Rattle.std.specs.Prelude.{false, ◌≡◌, Option, None, Some}
use Rattle.account_holdings.specs.Holdings.{HoldAlike, Holdings, IsWith, IsWithout}
use Rattle.account_holdings.specs.declared.holding.Holding.{Holding}
use Rattle.account_holdings.specs.declared.holding.Holding.TheVariants as held
use Rattle.role_graph.specs.Edges.{with_admin}

-- the holding of a row comes, where its accounts stand
abbrev pub Comes : Holdings → Holdings → Option Holding → Type 0
Comes old new None = HoldAlike old new
Comes old new (Some holding) = IsWith old new holding

-- the holding of a row goes
abbrev pub Goes : Holdings → Holdings → Option Holding → Type 0
Goes old new None = HoldAlike old new
Goes old new (Some holding) = IsWithout old new holding

-- a role goes after the right to grant it
abbrev pub MayGo : Holdings → Option Holding → Type 0
MayGo holdings (Some (held.Edge role to)) = with_admin holdings.roles role to ≡ false
MayGo holdings _ = Unit {0}
