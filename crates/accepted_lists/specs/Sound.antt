-- What the rows keep that stand after accepted statements (MySQL 8.0 Reference Manual, "Grant Tables", "Privilege Restriction
-- Using Partial Revokes").
use Rattle.std.specs.Prelude.{Bool, true, ◌&&◌, not, nat_lt, IsTrue}
use Rattle.acl_names.specs.AuthId.{same_auth}
use Rattle.acl_names.specs.Text.{is_lower}
use Rattle.acl_model.specs.State.{State}
use Rattle.acl_model.specs.declared.row.Row.{Row}
use Rattle.acl_model.specs.declared.row.Row.TheVariants.{Global, Dynamic, DynamicGrant, Schema, Table, Column, Function, Procedure, Edge, Admin, Restriction}
use Rattle.acl_stmt.specs.Statements.{is_named}
use Rattle.priv_sets.specs.Levels.{has_level}
use Rattle.priv_sets.specs.declared.level.Level.TheVariants as level

-- the privilege has the level of its row, columns and routines are in lower ASCII case, and a granted role has a user that is
-- not blank and another holder than itself
abbrev pub keeps_rules : Row → Bool
keeps_rules (Global a p) = nat_lt p 31
keeps_rules (Dynamic a d) = nat_lt d 20
keeps_rules (DynamicGrant a d) = nat_lt d 20
keeps_rules (Schema a s p) = has_level level.Schema p
keeps_rules (Restriction a p s) = has_level level.Schema p
keeps_rules (Table a s t p) = has_level level.Table p
keeps_rules (Column a s t c p) = has_level level.Column p && is_lower c
keeps_rules (Function a s f p) = has_level level.Routine p && is_lower f
keeps_rules (Procedure a s f p) = has_level level.Routine p && is_lower f
keeps_rules (Edge role to) = is_named role && not (same_auth role to)
keeps_rules _ = true

-- a grant option of a dynamic privilege stands beside the privilege, an admin option beside its role, and a restriction beside
-- the privilege on `*.*` and not beside that on the schema
abbrev pub stands_beside : (Row → Bool) → Row → Bool
stands_beside rows (DynamicGrant a d) = rows (Dynamic a d)
stands_beside rows (Admin role to) = rows (Edge role to)
stands_beside rows (Restriction a p s) = rows (Global a p) && not (rows (Schema a s p))
stands_beside rows _ = true

-- each row that stands keeps both
pub record IsSound (state : State) : Type 0 where
  pub rules : (row : Row) → IsTrue (state.rows row) → IsTrue (keeps_rules row)
  pub beside : (row : Row) → IsTrue (state.rows row) → IsTrue (stands_beside state.rows row)
