-- Which restrictions REVOKE at a schema gives.
use Rattle.std.specs.Prelude.{ℕ, Bool, true, false, List, Option, Some, None, if◌then◌else◌}
use Rattle.acl_model.specs.Words.{names_static}
use Rattle.acl_model.specs.declared.row.Row.{Row}
use Rattle.acl_model.specs.declared.row.Row.TheVariants.{Global, Restriction}
use Rattle.acl_stmt.specs.declared.privileges.PrivList.{PrivList}
use Rattle.priv_sets.specs.declared.level.Level.TheVariants as level

-- whether a row is a restriction
abbrev pub is_restriction : Row → Bool
is_restriction (Restriction a p s) = true
is_restriction _ = false

-- the restriction on the schema of a privilege that is named and held on `*.*`
abbrev pub restriction_of : PrivList → List ℕ → Row → Option Row
restriction_of privileges schema (Global a p) = if names_static privileges level.Schema p then Some (Restriction a p schema) else None
restriction_of privileges schema _ = None
