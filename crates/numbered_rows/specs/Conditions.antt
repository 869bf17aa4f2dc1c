-- When a row may be put, and when it may be taken.
use Rattle.std.specs.Prelude.{Bool, true, false, ◌≡◌, ◌&&◌, nat_lt, IsTrue}
use Rattle.acl_names.specs.AuthId.{same_auth}
use Rattle.acl_names.specs.declared.auth.AuthId.{AuthId}
use Rattle.acl_model.specs.Counts.{HasMoreThan}
use Rattle.acl_model.specs.Roles.{Reaches}
use Rattle.acl_model.specs.Rows.{some_name}
use Rattle.acl_model.specs.State.{State, stands}
use Rattle.acl_model.specs.declared.row.Row.{Row}
use Rattle.acl_model.specs.declared.row.Row.TheVariants.{Account, Global, Dynamic, DynamicGrant, Schema, Table, Column, Function, Procedure, Edge, Admin, Default, Restriction}
use Rattle.priv_sets.specs.Levels.{has_level}
use Rattle.priv_sets.specs.declared.level.Level.TheVariants as level

abbrev pub is_account : Row → Bool
is_account (Account a) = true
is_account _ = false

-- whether the accounts that a row names stand; an account row needs none
abbrev pub names_stand : State → Row → Bool
names_stand state (Account a) = true
names_stand state (Edge role to) = stands state role && stands state to
names_stand state (Admin role to) = stands state role && stands state to
names_stand state (Default of role) = stands state of && stands state role
names_stand state (Global a p) = stands state a
names_stand state (Dynamic a d) = stands state a
names_stand state (DynamicGrant a d) = stands state a
names_stand state (Schema a s p) = stands state a
names_stand state (Table a s t p) = stands state a
names_stand state (Column a s t c p) = stands state a
names_stand state (Function a s f p) = stands state a
names_stand state (Procedure a s f p) = stands state a
names_stand state (Restriction a p s) = stands state a

-- whether a row's privilege has the level of the row
abbrev pub has_its_level : Row → Bool
has_its_level (Global a p) = has_level level.Global p
has_its_level (Dynamic a d) = nat_lt d 20
has_its_level (DynamicGrant a d) = nat_lt d 20
has_its_level (Schema a s p) = has_level level.Schema p
has_its_level (Table a s t p) = has_level level.Table p
has_its_level (Column a s t c p) = has_level level.Column p
has_its_level (Function a s f p) = has_level level.Routine p
has_its_level (Procedure a s f p) = has_level level.Routine p
has_its_level (Restriction a p s) = has_level level.Schema p
has_its_level _ = true

-- fewer than 4,096 accounts stand
abbrev pub HasRoom : State → Type 0
HasRoom state = HasMoreThan same_auth (λ a. IsTrue (stands state a)) 4095 → ⊥

-- what stands, or does not, before the row may come
abbrev pub IsReadyFor : State → Row → Type 0
IsReadyFor state (Account a) = HasRoom state
IsReadyFor state (DynamicGrant a d) = IsTrue (state.rows (Dynamic a d))
IsReadyFor state (Edge role to) = Reaches state.rows role to → ⊥
IsReadyFor state (Admin role to) = IsTrue (state.rows (Edge role to))
IsReadyFor state _ = Unit {0}

-- no row but its own names the account
abbrev pub IsUnnamed : State → AuthId → Type 0
IsUnnamed state a = (row : Row) → is_account row ≡ false → IsTrue (state.rows row) → IsTrue (some_name (same_auth a) row) → ⊥

-- what does not stand any more before the row may go
abbrev pub IsFreeToGo : State → Row → Type 0
IsFreeToGo state (Account a) = IsUnnamed state a
IsFreeToGo state (Dynamic a d) = state.rows (DynamicGrant a d) ≡ false
IsFreeToGo state (Edge role to) = state.rows (Admin role to) ≡ false
IsFreeToGo state _ = Unit {0}
