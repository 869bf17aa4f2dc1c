-- The rows that a GRANT of privileges takes, whoever holds them: restrictions alone (MySQL 8.0 Reference Manual, "Privilege
-- Restriction Using Partial Revokes").
use Rattle.std.specs.Prelude.{ℕ, Bool, false, ◌&&◌, not, List}
use Rattle.acl_names.specs.Text.{text_eq}
use Rattle.acl_model.specs.Words.{limited}
use Rattle.acl_model.specs.declared.row.Row.{Row}
use Rattle.acl_model.specs.declared.row.Row.TheVariants.{Restriction}
use Rattle.acl_stmt.specs.declared.limit.Limit.{Limit}
use Rattle.acl_stmt.specs.declared.privileges.PrivList.{PrivList}
use Rattle.acl_stmt.specs.declared.target.Target.{Target}
use Rattle.acl_stmt.specs.declared.target.Target.TheVariants as on
use Rattle.grant_effects.specs.Granted.{grants_number}

-- whether a restriction of a granted privilege goes: at the granted schema each does, and on `*.*` each but those that a limit hands on
abbrev pub is_lifted : List Limit → PrivList → Target → Bool → ℕ → List ℕ → Bool
is_lifted limits privileges on.Global option p s = grants_number privileges on.Global option p && not (limited limits s p)
is_lifted limits privileges (on.Schema u) option p s = grants_number privileges (on.Schema u) option p && text_eq u s
is_lifted limits privileges target option p s = false

-- whether the grant takes the row from the account that holds it, where the grant names that account
abbrev pub taken_of : List Limit → PrivList → Target → Bool → Row → Bool
taken_of limits privileges target option (Restriction a p s) = is_lifted limits privileges target option p s
taken_of limits privileges target option row = false
