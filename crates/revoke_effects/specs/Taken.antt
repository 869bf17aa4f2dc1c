-- Which rows of its holder REVOKE of privileges takes, target by target.
use Rattle.std.specs.Prelude.{ℕ, Bool, false, ◌&&◌, ◌||◌, List}
use Rattle.acl_names.specs.Text.{text_eq}
use Rattle.acl_model.specs.Words.{names_column, names_dynamic, names_static}
use Rattle.acl_model.specs.declared.row.Row.{Row}
use Rattle.acl_model.specs.declared.row.Row.TheVariants.{Global, Dynamic, DynamicGrant, Schema, Table, Column, Function, Procedure, Restriction}
use Rattle.acl_stmt.specs.declared.privileges.PrivList.{PrivList}
use Rattle.acl_stmt.specs.declared.target.Target.{Target}
use Rattle.acl_stmt.specs.declared.target.Target.TheVariants as on
use Rattle.priv_sets.specs.Levels.{grant_option}
use Rattle.priv_sets.specs.declared.level.Level.TheVariants as level

-- on `*.*`: a static privilege with its restrictions, a dynamic one with its grant option; GRANT OPTION takes every dynamic one
abbrev pub taken_globally : PrivList → Row → Bool
taken_globally privileges (Global a p) = names_static privileges level.Global p
taken_globally privileges (Restriction a p s) = names_static privileges level.Global p
taken_globally privileges (Dynamic a d) = names_dynamic privileges d
taken_globally privileges (DynamicGrant a d) = names_dynamic privileges d || names_static privileges level.Global grant_option
taken_globally privileges _ = false

abbrev pub taken_on_schema : PrivList → List ℕ → Row → Bool
taken_on_schema privileges schema (Schema a s p) = text_eq schema s && names_static privileges level.Schema p
taken_on_schema privileges schema _ = false

-- the privileges of the table, and those of columns where the list names the columns
abbrev pub taken_on_table : PrivList → List ℕ → List ℕ → Row → Bool
taken_on_table privileges schema table (Table a s t p) = text_eq schema s && text_eq table t && names_static privileges level.Table p
taken_on_table privileges schema table (Column a s t c p) = text_eq schema s && text_eq table t && names_column privileges p c
taken_on_table privileges schema table _ = false

abbrev pub taken_on_function : PrivList → List ℕ → List ℕ → Row → Bool
taken_on_function privileges schema name (Function a s f p) = text_eq schema s && text_eq name f && names_static privileges level.Routine p
taken_on_function privileges schema name _ = false

abbrev pub taken_on_procedure : PrivList → List ℕ → List ℕ → Row → Bool
taken_on_procedure privileges schema name (Procedure a s f p) = text_eq schema s && text_eq name f && names_static privileges level.Routine p
taken_on_procedure privileges schema name _ = false

-- whether REVOKE at a target takes the row where its holder is one of the accounts
abbrev pub taken_at : PrivList → Target → Row → Bool
taken_at privileges on.Global row = taken_globally privileges row
taken_at privileges (on.Schema schema) row = taken_on_schema privileges schema row
taken_at privileges (on.Table schema table) row = taken_on_table privileges schema table row
taken_at privileges (on.Function schema name) row = taken_on_function privileges schema name row
taken_at privileges (on.Procedure schema name) row = taken_on_procedure privileges schema name row
