-- The check of a request (MySQL 8.0 Reference Manual, "Access Control, Stage 2: Request Verification", "When Privilege Changes
-- Take Effect"; that another schema than the current one is read at the request is this product's own choice).
use Rattle.std.specs.Prelude.{ℕ, zero, suc, Bool, true, false, ◌&&◌, ◌||◌, ◌==◌, not, List, [], ◌∷◌, ◌++◌, Option, Some, None, if◌then◌else◌}
use Rattle.std.specs.List.{find, flat_map}
use Rattle.std.specs.Option.{option_map}
use Rattle.acl_names.specs.Text.{text_eq}
use Rattle.acl_names.specs.declared.auth.AuthId.{AuthId}
use Rattle.acl_model.specs.Rights.{holds_globally, holds_on_column, holds_on_function, holds_on_procedure, holds_on_schema, holds_on_table, is_restricted}
use Rattle.acl_model.specs.State.{State}
use Rattle.acl_model.specs.Words.{names_dynamic, names_static}
use Rattle.acl_stmt.specs.Targets.{level_of}
use Rattle.acl_stmt.specs.declared.privileges.PrivList.{PrivList}
use Rattle.acl_stmt.specs.declared.refusal.Missing.{Missing}
use Rattle.acl_stmt.specs.declared.refusal.Why.TheVariants.{NoGrant, Restricted}
use Rattle.acl_stmt.specs.declared.target.Target.{Target}
use Rattle.acl_stmt.specs.declared.target.Target.TheVariants as on
use Rattle.priv_sets.specs.declared.privilege.Privilege.{Privilege}
use Rattle.priv_sets.specs.declared.privilege.Privilege.TheVariants.{Plain, Dynamic}

-- a state that was read, and the sources of the session in it
pub record Reading : Type 0 where
  pub state : State
  pub sources : List AuthId

-- what a session has read: its global level at the last CONNECT or SET ROLE, the current schema at the last USE or SET ROLE,
-- and everything else now
pub record Readings : Type 0 where
  pub at_login : Reading
  pub at_use : Reading
  pub at_present : Reading
  pub current : Option (List ℕ)

-- one privilege of a request, on one of the columns that it names or on none: the column's place and its name
pub record Need : Type 0 where
  pub privilege : Privilege
  pub column : Option (ℕ × List ℕ)

abbrev pub columns_from : ℕ → ℕ → List (List ℕ) → List Need
columns_from p place [] = []
columns_from p place (column ∷ columns) = record { privilege = Plain p; column = Some (place, column) } ∷ columns_from p (suc place) columns

-- the needs of one static privilege: without columns first, then its columns in the order of the request
abbrev pub static_needs : PrivList → Target → ℕ → List Need
static_needs privileges target p =
    (if names_static privileges (level_of target) p then record { privilege = Plain p; column = None } ∷ [] else [])
    ++ flat_map (λ c. if c.privilege == p then columns_from p 0 c.names else []) privileges.columns

abbrev pub dynamic_needs : PrivList → Target → ℕ → List Need
dynamic_needs privileges on.Global d = if names_dynamic privileges d then record { privilege = Dynamic d; column = None } ∷ [] else []
dynamic_needs privileges _ d = []

abbrev pub needs_below : (ℕ → List Need) → ℕ → List Need
needs_below needs zero = []
needs_below needs (suc limit) = needs_below needs limit ++ needs limit

-- the needs of a request, in the order of privileges: the static ones, GRANT OPTION, the dynamic ones
abbrev pub needs_of : PrivList → Target → List Need
needs_of privileges target = needs_below (static_needs privileges target) 31 ++ needs_below (dynamic_needs privileges target) 20

-- by the rows of the table, the column or the routine, as they stand now
abbrev pub met_by_object : Reading → Target → ℕ → Option (ℕ × List ℕ) → Bool
met_by_object now on.Global p column = false
met_by_object now (on.Schema schema) p column = false
met_by_object now (on.Table schema table) p None = holds_on_table now.state now.sources schema table p
met_by_object now (on.Table schema table) p (Some column) =
    holds_on_table now.state now.sources schema table p || holds_on_column now.state now.sources schema table column.1 p
met_by_object now (on.Function schema name) p column = holds_on_function now.state now.sources schema name p
met_by_object now (on.Procedure schema name) p column = holds_on_procedure now.state now.sources schema name p

-- the reading that counts for a schema: that of the last USE where it is the current one
abbrev pub schema_reading : Option (List ℕ) → List ℕ → Reading → Reading → Reading
schema_reading None schema used now = now
schema_reading (Some current) schema used now = if text_eq current schema then used else now

abbrev pub schema_of : Target → Option (List ℕ)
schema_of on.Global = None
schema_of (on.Schema schema) = Some schema
schema_of (on.Table schema table) = Some schema
schema_of (on.Function schema name) = Some schema
schema_of (on.Procedure schema name) = Some schema

abbrev pub is_restricted_at_login : Readings → Privilege → Option (List ℕ) → Bool
is_restricted_at_login readings (Plain p) (Some schema) = is_restricted readings.at_login.state readings.at_login.sources p schema
is_restricted_at_login readings _ _ = false

-- held on the schema that the target stands in
abbrev pub met_by_schema : Readings → Option (List ℕ) → ℕ → Bool
met_by_schema readings None p = false
met_by_schema readings (Some schema) p =
    (λ (r : Reading). holds_on_schema r.state r.sources schema p) (schema_reading readings.current schema readings.at_use readings.at_present)

abbrev pub met_below : Readings → Target → Privilege → Option (ℕ × List ℕ) → Bool
met_below readings target (Plain p) column =
    met_by_schema readings (schema_of target) p || met_by_object readings.at_present target p column
met_below readings target (Dynamic d) column = false

-- whether a need is met: held on `*.*` and not restricted on the target's schema, or held on the schema or the object
unfoldable pub is_met : Readings → Target → Need → Bool
is_met readings target need =
    (holds_globally readings.at_login.state readings.at_login.sources need.privilege && not (is_restricted_at_login readings need.privilege (schema_of target)))
    || met_below readings target need.privilege need.column

abbrev pub is_on_target : Target → Bool
is_on_target on.Global = false
is_on_target _ = true

-- what a denial names of a need
abbrev pub missing_of : Readings → Target → Need → Missing
missing_of readings target need = record {
  privilege = need.privilege;
  on_target = is_on_target target;
  column = option_map (λ column. column.0) need.column;
  why = if is_restricted_at_login readings need.privilege (schema_of target) then Restricted else NoGrant;
}

-- the verdict: None where each need is met, else the first that is not
unfoldable pub verdict_of : Readings → PrivList → Target → Option Missing
verdict_of readings privileges target = option_map (missing_of readings target) (find (λ need. not (is_met readings target need)) (needs_of privileges target))
