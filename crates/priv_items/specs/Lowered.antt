-- Targets whose routines are named in lower case.
use Rattle.std.specs.Str.{str_to_ascii_lowercase}
use Rattle.acl_stmt.specs.declared.target.Target.{Target}
use Rattle.acl_stmt.specs.declared.target.Target.TheVariants as on

-- the name of a routine in lower case; schemas and tables as they are written
abbrev pub lowered_target : Target → Target
lowered_target (on.Function schema name) = on.Function schema (str_to_ascii_lowercase name)
lowered_target (on.Procedure schema name) = on.Procedure schema (str_to_ascii_lowercase name)
lowered_target (on.Table schema table) = on.Table schema table
lowered_target (on.Schema schema) = on.Schema schema
lowered_target on.Global = on.Global
