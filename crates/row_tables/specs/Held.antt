-- When what a row says may come among the holdings.
use Rattle.std.specs.Prelude.{◌<◌, IsTrue, Option, Some}
use Rattle.account_holdings.specs.Holdings.{Holdings}
use Rattle.account_holdings.specs.declared.holding.Holding.{Holding}
use Rattle.account_holdings.specs.declared.holding.Holding.TheVariants.{OnSchema, Restricted, OnObject, Edge, Admin, Default}
use Rattle.role_graph.specs.Edges.{granted}
use Rattle.role_graph.specs.Paths.{Reaches}

-- a role that would not lead back to where it begins, and the right to grant a role that is there
abbrev pub IsReadyHeld : Holdings → Option Holding → Type 0
IsReadyHeld holdings (Some (Edge role to)) = Reaches (granted holdings.roles) role to → ⊥
IsReadyHeld holdings (Some (Admin role to)) = IsTrue (granted holdings.roles role to)
IsReadyHeld holdings _ = Unit {0}

-- there is room for it
abbrev pub FitsHeld : Holdings → Option Holding → Type 0
FitsHeld holdings (Some (OnSchema n s p)) = (0 < holdings.schemas.record_room) × (0 < holdings.schemas.thing_room)
FitsHeld holdings (Some (Restricted n s p)) = (0 < holdings.schemas.record_room) × (0 < holdings.schemas.thing_room)
FitsHeld holdings (Some (OnObject n o p)) = (0 < holdings.objects.record_room) × (0 < holdings.objects.thing_room)
FitsHeld holdings (Some (Edge role to)) = 0 < holdings.roles.room
FitsHeld holdings (Some (Admin role to)) = 0 < holdings.roles.room
FitsHeld holdings (Some (Default of role)) = (0 < holdings.defaults.record_room) × (0 < holdings.defaults.thing_room)
FitsHeld holdings _ = Unit {0}
