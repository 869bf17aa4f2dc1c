-- The rows that a GRANT of privileges gives, whoever holds them (MySQL 8.0 Reference Manual, "GRANT Statement", "Privilege
-- Restriction Using Partial Revokes").
use Rattle.std.specs.Prelude.{ℕ, Bool, false, ◌&&◌, ◌||◌, not, List}
use Rattle.std.specs.List.{list_any}
use Rattle.acl_names.specs.Text.{text_eq}
use Rattle.acl_names.specs.declared.auth.AuthId.{AuthId}
use Rattle.acl_model.specs.State.{State}
use Rattle.acl_model.specs.Words.{names_column, names_dynamic}
use Rattle.acl_model.specs.declared.row.Row.{Row}
use Rattle.acl_model.specs.declared.row.Row.TheVariants.{Global, Dynamic, DynamicGrant, Schema, Table, Column, Function, Procedure, Restriction}
use Rattle.acl_stmt.specs.declared.limit.Limit.{Limit}
use Rattle.acl_stmt.specs.declared.privileges.PrivList.{PrivList}
use Rattle.acl_stmt.specs.declared.target.Target.{Target}
use Rattle.acl_stmt.specs.declared.target.Target.TheVariants as on
use Rattle.grant_effects.specs.Granted.{grants_number}
use Rattle.priv_sets.specs.StaticSet.{holds}

-- the row of a static privilege at a target
abbrev pub row_at : Target → AuthId → ℕ → Row
row_at on.Global a p = Global a p
row_at (on.Schema s) a p = Schema a s p
row_at (on.Table s t) a p = Table a s t p
row_at (on.Function s f) a p = Function a s f p
row_at (on.Procedure s f) a p = Procedure a s f p

-- a static privilege at the target; at a schema, where no restriction of it stands, which goes instead
unfoldable pub static_given : State → PrivList → Target → Bool → Row → Bool
static_given state privileges on.Global option (Global a p) = grants_number privileges on.Global option p
static_given state privileges (on.Schema u) option (Schema a s p) =
    text_eq s u && grants_number privileges (on.Schema u) option p && not (state.rows (Restriction a p s))
static_given state privileges (on.Table u v) option (Table a s t p) = text_eq s u && text_eq t v && grants_number privileges (on.Table u v) option p
static_given state privileges (on.Function u v) option (Function a s f p) = text_eq s u && text_eq f v && grants_number privileges (on.Function u v) option p
static_given state privileges (on.Procedure u v) option (Procedure a s f p) = text_eq s u && text_eq f v && grants_number privileges (on.Procedure u v) option p
static_given state privileges target option row = false

-- a privilege on a column of the table
unfoldable pub column_given : PrivList → Target → Row → Bool
column_given privileges (on.Table u v) (Column a s t c p) = text_eq s u && text_eq t v && names_column privileges p c
column_given privileges target row = false

-- a dynamic privilege, with its grant option where WITH GRANT OPTION is given
unfoldable pub dynamic_given : PrivList → Target → Bool → Row → Bool
dynamic_given privileges on.Global option (Dynamic a d) = names_dynamic privileges d
dynamic_given privileges on.Global option (DynamicGrant a d) = option && names_dynamic privileges d
dynamic_given privileges target option row = false

-- a restriction that one limit hands on, of a privilege that comes newly on `*.*`, where no grant on the schema stands
unfoldable pub limit_gives : State → PrivList → Target → Bool → Row → Limit → Bool
limit_gives state privileges on.Global option (Restriction a p s) limit =
    text_eq s limit.schema && (holds limit.privileges p && grants_number privileges on.Global option p && not (state.rows (Global a p)) && not (state.rows (Schema a s p)))
limit_gives state privileges target option row limit = false

-- a restriction that some limit hands on
abbrev pub restriction_given : State → List Limit → PrivList → Target → Bool → Row → Bool
restriction_given state limits privileges target option row = list_any (limit_gives state privileges target option row) limits

-- whether the grant gives the row to the account that holds it, where the grant names that account
abbrev pub given_of : State → List Limit → PrivList → Target → Bool → Row → Bool
given_of state limits privileges target option row =
    static_given state privileges target option row || column_given privileges target row || dynamic_given privileges target option row
    || restriction_given state limits privileges target option row
