-- Of which accounts REVOKE finds nothing.
use Rattle.std.specs.Prelude.{ℕ, Bool, true, false, ◌≡◌, ◌⊎◌, ◌&&◌, nat_lt, List, Option, Some, None}
use Rattle.acl_names.specs.Text.{text_eq}
use Rattle.acl_names.specs.declared.auth.AuthId.{AuthId}
use Rattle.acl_model.specs.Acceptance.{HasNothingOn, LacksGrant}
use Rattle.acl_model.specs.Firsts.{HasNone, IsFirst}
use Rattle.acl_model.specs.Refusals.{first_fault, may_revoke}
use Rattle.acl_model.specs.State.{State}
use Rattle.acl_model.specs.Words.{names_static}
use Rattle.acl_model.specs.declared.row.Row.{Row}
use Rattle.acl_model.specs.declared.row.Row.TheVariants.{Global, Schema, Table, Column, Function, Procedure}
use Rattle.acl_stmt.specs.declared.privileges.PrivList.{PrivList}
use Rattle.acl_stmt.specs.declared.refusal.Refusal.TheVariants.{NoSuchGrant}
use Rattle.acl_stmt.specs.declared.statement.Statement.TheVariants.{Revoke}
use Rattle.acl_stmt.specs.declared.target.Target.{Target}
use Rattle.acl_stmt.specs.declared.target.Target.TheVariants as on
use Rattle.priv_sets.specs.declared.level.Level.TheVariants as level

-- REVOKE finds nothing of the account's on the target
abbrev pub FindsNothing : State → PrivList → Target → AuthId → Type 0
FindsNothing state privileges (on.Table schema table) a = HasNothingOn state schema table a
FindsNothing state privileges target a = may_revoke state privileges target a ≡ false

-- whether the target is `*.*`
abbrev pub is_everything : Target → Bool
is_everything on.Global = true
is_everything _ = false

-- a schema row on the schema, or a named privilege on `*.*`
abbrev pub found_on_schema : PrivList → List ℕ → Row → Bool
found_on_schema privileges schema (Schema a s p) = text_eq schema s && nat_lt p 31
found_on_schema privileges schema (Global a p) = names_static privileges level.Schema p
found_on_schema privileges schema _ = false

-- a row on the table, or on a column of it
abbrev pub found_on_table : List ℕ → List ℕ → Row → Bool
found_on_table schema table (Table a s t p) = text_eq schema s && text_eq table t
found_on_table schema table (Column a s t c p) = text_eq schema s && text_eq table t
found_on_table schema table _ = false

abbrev pub found_on_function : List ℕ → List ℕ → Row → Bool
found_on_function schema name (Function a s f p) = text_eq schema s && text_eq name f && nat_lt p 31
found_on_function schema name _ = false

abbrev pub found_on_procedure : List ℕ → List ℕ → Row → Bool
found_on_procedure schema name (Procedure a s f p) = text_eq schema s && text_eq name f && nat_lt p 31
found_on_procedure schema name _ = false

-- whether a row of an account is something that REVOKE finds on the target
abbrev pub is_found : PrivList → Target → Row → Bool
is_found privileges on.Global row = false
is_found privileges (on.Schema schema) row = found_on_schema privileges schema row
is_found privileges (on.Table schema table) row = found_on_table schema table row
is_found privileges (on.Function schema name) row = found_on_function schema name row
is_found privileges (on.Procedure schema name) row = found_on_procedure schema name row

-- what a list of accounts that all stand is refused for: the first of which nothing is found, or nothing at all
abbrev pub IsGrantFault : State → PrivList → Target → List AuthId → Option AuthId → Type 0
IsGrantFault state privileges target accounts None =
    (first_fault state (Revoke privileges target accounts) ≡ None) × HasNone (LacksGrant state (Revoke privileges target accounts)) accounts
IsGrantFault state privileges target accounts (Some account) =
    (first_fault state (Revoke privileges target accounts) ≡ Some (NoSuchGrant account))
    ⊎ ((first_fault state (Revoke privileges target accounts) ≡ None) × IsFirst (LacksGrant state (Revoke privileges target accounts)) accounts account)
