-- What privileges are held on.
use Rattle.std.specs.Prelude.{Bool, true, false}
use Rattle.acl_names.specs.Text.{is_lower}
use Rattle.acl_stmt.specs.declared.target.Target.{Target}
use Rattle.acl_stmt.specs.declared.target.Target.TheVariants as on
use Rattle.priv_sets.specs.declared.level.Level.{Level}
use Rattle.priv_sets.specs.declared.level.Level.TheVariants.{Global, Schema, Table, Routine}

-- the level of a target
abbrev pub level_of : Target → Level
level_of on.Global = Global
level_of (on.Schema schema) = Schema
level_of (on.Table schema table) = Table
level_of (on.Function schema name) = Routine
level_of (on.Procedure schema name) = Routine

-- whether the target is a table
abbrev pub is_table : Target → Bool
is_table (on.Table schema table) = true
is_table _ = false

-- the names of routines are in lower case
abbrev pub is_target : Target → Bool
is_target (on.Function schema name) = is_lower name
is_target (on.Procedure schema name) = is_lower name
is_target _ = true
