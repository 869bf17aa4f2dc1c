-- What a session acts by, and that its copies are those of the states that it read (MySQL 8.0 Reference Manual, "When Privilege
-- Changes Take Effect").
use Rattle.std.specs.Prelude.{ℕ, ◌≡◌, ◌<◌, ◌&&◌, IsTrue, List, [], ◌∷◌, Option, Some, None}
use Rattle.std.specs.Option.{option_map}
use Rattle.acl_names.specs.declared.auth.AuthId.{AuthId}
use Rattle.acl_model.specs.Rights.{holds_globally, holds_on_schema, is_restricted, may_grant_dynamic}
use Rattle.acl_model.specs.State.{State}
use Rattle.acl_model.specs.Verdict.{Reading, Readings}
use Rattle.acl_model.specs.Words.{limited}
use Rattle.priv_map.specs.declared.acting.Acting.{Acting}
use Rattle.priv_map.specs.declared.schema_held.SchemaHeld.{SchemaHeld}
use Rattle.priv_sets.specs.DynamicSet.{grants_dynamic, holds_dynamic}
use Rattle.priv_sets.specs.Levels.{has_level}
use Rattle.priv_sets.specs.StaticSet.{holds}
use Rattle.priv_sets.specs.declared.level.Level.TheVariants.{Schema}
use Rattle.priv_sets.specs.declared.privilege.Privilege.TheVariants.{Plain, Dynamic}

-- the sources of a session: its account alone, since roles give nothing yet
abbrev pub sources_of : Acting → List AuthId
sources_of acting = acting.account ∷ []

-- the state as the session reads it
abbrev pub reading_of : State → Acting → Reading
reading_of state acting = record { state = state; sources = sources_of acting }

-- the current schema
abbrev pub current_of : Acting → Option (List ℕ)
current_of acting = option_map (λ held. held.schema) acting.current

-- what the session has read, where this state stands now
abbrev pub readings_of : Reading → Reading → State → Acting → Readings
readings_of login used now acting = record { at_login = login; at_use = used; at_present = reading_of now acting; current = current_of acting }

-- the mask is what is held on the schema
abbrev pub IsMaskOf : SchemaHeld → Reading → Type 0
IsMaskOf held used = (p : ℕ) → p < 31 → holds held.mask p ≡ holds_on_schema used.state used.sources held.schema p

abbrev pub IsCurrentRead : Option SchemaHeld → Reading → Type 0
IsCurrentRead None used = Unit {0}
IsCurrentRead (Some held) used = IsMaskOf held used

-- the copies are what is held in one state on `*.*`, and in another one on the current schema; restrictions are of privileges
-- with the schema level
pub record IsReadAt (acting : Acting) (login used : Reading) : Type 0 where
  pub plain : (p : ℕ) → p < 31 → holds acting.held.plain p ≡ holds_globally login.state login.sources (Plain p)
  pub dynamic : (d : ℕ) → d < 20 → holds_dynamic acting.held.dynamic d ≡ holds_globally login.state login.sources (Dynamic d)
  pub grantable : (d : ℕ) → d < 20 →
      grants_dynamic acting.held.dynamic d ≡ (holds_globally login.state login.sources (Dynamic d) && may_grant_dynamic login.state login.sources d)
  pub restricted : (schema : List ℕ) (p : ℕ) → IsTrue (has_level Schema p) →
      limited acting.held.restrictions schema p ≡ is_restricted login.state login.sources p schema
  pub current : IsCurrentRead acting.current used
