-- Roles that are not granted in a circle (MySQL 8.0 Reference Manual, "Using Roles").
use Rattle.std.specs.Prelude.{Bool, IsTrue}
use Rattle.acl_names.specs.declared.auth.AuthId.{AuthId}
use Rattle.acl_model.specs.Roles.{Reaches}
use Rattle.acl_model.specs.declared.row.Row.{Row}
use Rattle.acl_model.specs.declared.row.Row.TheVariants.{Edge}

-- no role reaches an account that holds it
abbrev pub HasNoCircle : (Row → Bool) → Type 0
HasNoCircle rows = (role to : AuthId) → IsTrue (rows (Edge role to)) → Reaches rows role to → ⊥
