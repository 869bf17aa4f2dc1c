-- The check by a session's own copies, and by what stands now where it has none.
use Rattle.std.specs.Prelude.{ℕ, Bool, false, ◌&&◌, ◌||◌, ◌==◌, not, List, [], Option, Some, None, if◌then◌else◌}
use Rattle.std.specs.List.{find, flat_map}
use Rattle.std.specs.Option.{option_map}
use Rattle.acl_names.specs.Text.{text_eq}
use Rattle.acl_model.specs.Rights.{holds_on_column, holds_on_schema}
use Rattle.acl_model.specs.State.{State}
use Rattle.acl_model.specs.Verdict.{Need, columns_from, is_on_target, met_by_object, schema_of}
use Rattle.acl_model.specs.Words.{limited, names_dynamic}
use Rattle.acl_stmt.specs.declared.columns.ColumnPriv.{ColumnPriv}
use Rattle.acl_stmt.specs.declared.privileges.PrivList.{PrivList}
use Rattle.acl_stmt.specs.declared.refusal.Missing.{Missing}
use Rattle.acl_stmt.specs.declared.refusal.Why.TheVariants.{NoGrant, Restricted}
use Rattle.acl_stmt.specs.declared.target.Target.{Target}
use Rattle.acl_stmt.specs.declared.target.Target.TheVariants as on
use Rattle.priv_map.specs.Readings.{reading_of, sources_of}
use Rattle.priv_map.specs.declared.acting.Acting.{Acting}
use Rattle.priv_map.specs.declared.held.Held.{Held}
use Rattle.priv_map.specs.declared.schema_held.SchemaHeld.{SchemaHeld}
use Rattle.priv_sets.specs.DynamicSet.{holds_dynamic}
use Rattle.priv_sets.specs.StaticSet.{holds}
use Rattle.priv_sets.specs.declared.privilege.Privilege.{Privilege}
use Rattle.priv_sets.specs.declared.privilege.Privilege.TheVariants.{Plain, Dynamic}

abbrev pub is_limited_on : Held → Option (List ℕ) → ℕ → Bool
is_limited_on held None p = false
is_limited_on held (Some schema) p = limited held.restrictions schema p

-- restricted on the target's schema
abbrev pub is_limited : Acting → Target → Privilege → Bool
is_limited acting target (Plain p) = is_limited_on acting.held (schema_of target) p
is_limited acting target (Dynamic d) = false

-- by the copy on the current schema, and else by what is read now
abbrev pub by_mask : Option SchemaHeld → List ℕ → ℕ → Bool → Bool
by_mask None schema p now = now
by_mask (Some held) schema p now = if text_eq held.schema schema then holds held.mask p else now

abbrev pub met_on_schema : Acting → State → Option (List ℕ) → ℕ → Bool
met_on_schema acting now None p = false
met_on_schema acting now (Some schema) p = by_mask acting.current schema p (holds_on_schema now (sources_of acting) schema p)

-- whether a privilege is there, on a column or on none
abbrev pub is_there : Acting → State → Target → Privilege → Option (ℕ × List ℕ) → Bool
is_there acting now target (Plain p) column =
    (holds acting.held.plain p && not (is_limited acting target (Plain p)))
    || (met_on_schema acting now (schema_of target) p || met_by_object (reading_of now acting) target p column)
is_there acting now target (Dynamic d) column = holds_dynamic acting.held.dynamic d

unfoldable pub is_met_by_copies : Acting → State → Target → Need → Bool
is_met_by_copies acting now target need = is_there acting now target need.privilege need.column

-- what a denial names
abbrev pub missing_at : Acting → Target → Privilege → Option ℕ → Missing
missing_at acting target privilege place = record {
  privilege = privilege;
  on_target = is_on_target target;
  column = place;
  why = if is_limited acting target privilege then Restricted else NoGrant;
}

abbrev pub missing_by_copies : Acting → Target → Need → Missing
missing_by_copies acting target need = missing_at acting target need.privilege (option_map (λ column. column.0) need.column)

-- the first of the needs that is not met
unfoldable pub first_missing : Acting → State → Target → List Need → Option Missing
first_missing acting now target needs =
    option_map (missing_by_copies acting target) (find (λ need. not (is_met_by_copies acting now target need)) needs)

-- the needs of one privilege on the columns that one list names
abbrev pub column_needs : ℕ → ColumnPriv → List Need
column_needs p columns = if columns.privilege == p then columns_from p 0 columns.names else []

abbrev pub columns_needs : ℕ → List ColumnPriv → List Need
columns_needs p lists = flat_map (column_needs p) lists

-- dynamic privileges are asked for on `*.*` alone
abbrev pub asks_dynamic : PrivList → Target → ℕ → Bool
asks_dynamic privileges on.Global d = names_dynamic privileges d
asks_dynamic privileges _ d = false

-- a column without its place
abbrev pub unplaced : List ℕ → ℕ × List ℕ
unplaced name = (0, name)

abbrev pub held_on_column : State → Acting → List ℕ → List ℕ → Option (List ℕ) → ℕ → Bool
held_on_column now acting schema table None p = false
held_on_column now acting schema table (Some column) p = holds_on_column now (sources_of acting) schema table column p
