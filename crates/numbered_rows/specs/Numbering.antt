-- Accounts by their numbers, and rows as what numbered accounts hold.
use Rattle.std.specs.Prelude.{ℕ, ◌+◌, Bool, false, List, [], ◌∷◌, Option, Some, None, if◌then◌else◌}
use Rattle.std.specs.Option.{option_map}
use Rattle.account_holdings.specs.Holdings.{Holdings, holds}
use Rattle.account_holdings.specs.declared.holding.Holding.{Holding}
use Rattle.account_holdings.specs.declared.holding.Holding.TheVariants as held
use Rattle.account_holdings.specs.declared.globals.GlobalKind.TheVariants as kind
use Rattle.acl_model.specs.declared.row.Row.{Row}
use Rattle.acl_model.specs.declared.row.Row.TheVariants.{Account, Global, Dynamic, DynamicGrant, Schema, Table, Column, Function, Procedure, Edge, Admin, Default, Restriction}
use Rattle.acl_names.specs.AuthId.{same_auth}
use Rattle.acl_names.specs.declared.auth.AuthId.{AuthId}
use Rattle.numbered_names.specs.Numbered.{is_name}
use Rattle.object_bits.specs.declared.object.Object.TheVariants as object

-- the first number that has the name of an account
abbrev pub number_of : List (Option AuthId) → AuthId → Option ℕ
number_of [] a = None
number_of (name ∷ names) a = if is_name same_auth a name then Some 0 else option_map (λ n. n + 1) (number_of names a)

-- what the account of a name holds, as its number holds it
abbrev pub one_number : (ℕ → Holding) → Option ℕ → Option Holding
one_number holding None = None
one_number holding (Some n) = Some (holding n)

abbrev pub two_numbers : (ℕ → ℕ → Holding) → Option ℕ → Option ℕ → Option Holding
two_numbers holding (Some m) (Some n) = Some (holding m n)
two_numbers holding _ _ = None

-- a row as what numbered accounts hold; None for an account row, and where a name has no number
abbrev pub holding_of : List (Option AuthId) → Row → Option Holding
holding_of names (Account a) = None
holding_of names (Global a p) = one_number (λ n. held.OnAll kind.Static n p) (number_of names a)
holding_of names (Dynamic a d) = one_number (λ n. held.OnAll kind.Dynamic n d) (number_of names a)
holding_of names (DynamicGrant a d) = one_number (λ n. held.OnAll kind.Grantable n d) (number_of names a)
holding_of names (Schema a s p) = one_number (λ n. held.OnSchema n s p) (number_of names a)
holding_of names (Table a s t p) = one_number (λ n. held.OnObject n (object.Table s t) p) (number_of names a)
holding_of names (Column a s t c p) = one_number (λ n. held.OnObject n (object.Column s t c) p) (number_of names a)
holding_of names (Function a s f p) = one_number (λ n. held.OnObject n (object.Function s f) p) (number_of names a)
holding_of names (Procedure a s f p) = one_number (λ n. held.OnObject n (object.Procedure s f) p) (number_of names a)
holding_of names (Edge role to) = two_numbers held.Edge (number_of names role) (number_of names to)
holding_of names (Admin role to) = two_numbers held.Admin (number_of names role) (number_of names to)
holding_of names (Default of role) = two_numbers held.Default (number_of names of) (number_of names role)
holding_of names (Restriction a p s) = one_number (λ n. held.Restricted n s p) (number_of names a)

-- whether there is such a holding, and the tables have it
abbrev pub holds_some : Holdings → Option Holding → Bool
holds_some tables None = false
holds_some tables (Some holding) = holds tables holding
