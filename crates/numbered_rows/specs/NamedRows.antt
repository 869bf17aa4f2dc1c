-- What numbered accounts hold, as rows.
use Rattle.std.specs.Prelude.{ℕ, List, Option, None, Some}
use Rattle.account_holdings.specs.declared.globals.GlobalKind.TheVariants as kind
use Rattle.account_holdings.specs.declared.holding.Holding.{Holding}
use Rattle.account_holdings.specs.declared.holding.Holding.TheVariants as held
use Rattle.acl_model.specs.State.{root}
use Rattle.acl_model.specs.declared.row.Row.{Row}
use Rattle.acl_model.specs.declared.row.Row.TheVariants.{Global, Dynamic, DynamicGrant, Schema, Table, Column, Function, Procedure, Edge, Admin, Default, Restriction}
use Rattle.acl_names.specs.declared.auth.AuthId.{AuthId}
use Rattle.numbered_names.specs.Numbered.{name_at}
use Rattle.object_bits.specs.declared.object.Object.{Object}
use Rattle.object_bits.specs.declared.object.Object.TheVariants as object

-- the account of a number; root stands in where it is free, and no holding has such a number
abbrev pub name_or_root : Option AuthId → AuthId
name_or_root None = root
name_or_root (Some a) = a

abbrev pub name_of : List (Option AuthId) → ℕ → AuthId
name_of names n = name_or_root (name_at names n)

abbrev pub object_row : AuthId → Object → ℕ → Row
object_row a (object.Table s t) p = Table a s t p
object_row a (object.Column s t c) p = Column a s t c p
object_row a (object.Function s f) p = Function a s f p
object_row a (object.Procedure s f) p = Procedure a s f p

abbrev pub row_of : List (Option AuthId) → Holding → Row
row_of names (held.OnAll kind.Static n p) = Global (name_of names n) p
row_of names (held.OnAll kind.Dynamic n p) = Dynamic (name_of names n) p
row_of names (held.OnAll kind.Grantable n p) = DynamicGrant (name_of names n) p
row_of names (held.OnSchema n s p) = Schema (name_of names n) s p
row_of names (held.Restricted n s p) = Restriction (name_of names n) p s
row_of names (held.OnObject n o p) = object_row (name_of names n) o p
row_of names (held.Edge role to) = Edge (name_of names role) (name_of names to)
row_of names (held.Admin role to) = Admin (name_of names role) (name_of names to)
row_of names (held.Default of role) = Default (name_of names of) (name_of names role)
