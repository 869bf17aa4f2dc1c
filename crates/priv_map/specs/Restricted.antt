-- Which restrictions rows speak of, and how they are gathered.
use Rattle.std.specs.Prelude.{ℕ, Bool, false, ◌≡◌, ◌&&◌, List, [], ◌∷◌, ◌++◌}
use Rattle.std.specs.List.{list_any}
use Rattle.acl_names.specs.AuthId.{same_auth}
use Rattle.acl_names.specs.Text.{text_eq}
use Rattle.acl_names.specs.declared.auth.AuthId.{AuthId}
use Rattle.acl_model.specs.Rows.{same_row}
use Rattle.acl_model.specs.declared.row.Row.{Row}
use Rattle.acl_model.specs.declared.row.Row.TheVariants.{Restriction}
use Rattle.acl_stmt.specs.declared.limit.Limit.{Limit}
use Rattle.priv_sets.specs.Levels.{has_level}
use Rattle.priv_sets.specs.StaticSet.{holds}
use Rattle.priv_sets.specs.declared.level.Level.TheVariants.{Schema}
use Rattle.priv_sets.specs.declared.static_set.Static.{Static}

-- a restriction of the account's stands among the rows
abbrev pub lists_restriction : List Row → AuthId → List ℕ → ℕ → Bool
lists_restriction rows account schema p = list_any (same_row (Restriction account p schema)) rows

-- one of these privileges, with the schema level, does not reach the schema
abbrev pub restricts : List Row → AuthId → Static → List ℕ → ℕ → Bool
restricts rows account plain schema p = (holds plain p && has_level Schema p) && lists_restriction rows account schema p

-- a restriction of the account's on the schema, whatever the privilege
abbrev pub is_restriction_on : AuthId → List ℕ → Row → Bool
is_restriction_on account schema (Restriction other p name) = same_auth account other && text_eq schema name
is_restriction_on account schema _ = false

-- one limit more, or none where there is no privilege
pub data AddsLimit (old new : List Limit) (schema : List ℕ) (privileges : Static) : Type 0 where
  PassesOver : new ≡ old → ((q : ℕ) → holds privileges q ≡ false) → AddsLimit old new schema privileges
  Adds : (limit : Limit) → limit.schema ≡ schema → limit.privileges ≡ privileges → new ≡ old ++ limit ∷ [] → AddsLimit old new schema privileges
