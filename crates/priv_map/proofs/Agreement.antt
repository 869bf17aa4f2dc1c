-- The check by copies is the check of the states that they were read in.
use Rattle.std.proofs.Common.{◌≡◌, ◌∙◌, ap, sym, refl, ℕ, zero, suc, ◌<◌, ◌≤◌, ◌==◌, Bool, true, false, ◌&&◌, ◌||◌, cond, not, nat_lt, List, [], ◌∷◌, ◌++◌, Option, Some, None, arith, inl, inr}
use Rattle.std.proofs.Math.Bool.{or-true}
use Rattle.std.proofs.lemmas.Bool.{and_from, and_parts, eqb-true, lt-ltb, ltb-true, or_cases, or_left, or_right}
use Rattle.std.proofs.lemmas.List.Folds.{list_all-append}
use Rattle.std.specs.List.{find, list_all}
use Rattle.std.specs.Option.{option_map}
use Rattle.acl_names.proofs.SameAuth.{equal_from_text_eq}
use Rattle.acl_names.specs.Text.{text_eq}
use Rattle.acl_model.specs.Rights.{holds_globally, holds_on_schema}
use Rattle.acl_model.specs.State.{State}
use Rattle.acl_model.specs.Verdict.{Need, Reading, Readings, columns_from, dynamic_needs, is_met, is_on_target, is_restricted_at_login, met_below, met_by_object, met_by_schema, missing_of, needs_below, needs_of, schema_of, schema_reading, static_needs, verdict_of}
use Rattle.acl_model.specs.Words.{names_dynamic, names_static}
use Rattle.acl_rows.proofs.Below.{below_at}
use Rattle.acl_stmt.specs.Columns.{is_column_list}
use Rattle.acl_stmt.specs.Requests.{all_below, is_request}
use Rattle.acl_stmt.specs.Targets.{level_of}
use Rattle.acl_stmt.specs.declared.columns.ColumnPriv.{ColumnPriv}
use Rattle.acl_stmt.specs.declared.privileges.PrivList.{PrivList}
use Rattle.acl_stmt.specs.declared.refusal.Missing.{Missing}
use Rattle.acl_stmt.specs.declared.refusal.Why.TheVariants.{NoGrant, Restricted}
use Rattle.acl_stmt.specs.declared.request.Request.{Request}
use Rattle.acl_stmt.specs.declared.target.Target.{Target}
use Rattle.acl_stmt.specs.declared.target.Target.TheVariants as on
use Rattle.priv_map.specs.Copies.{by_mask, column_needs, columns_needs, first_missing, is_limited, is_met_by_copies, is_there, met_on_schema, missing_by_copies}
use Rattle.priv_map.specs.Readings.{IsCurrentRead, IsReadAt, reading_of, readings_of, sources_of}
use Rattle.priv_map.specs.declared.acting.Acting.{Acting}
use Rattle.priv_map.specs.declared.schema_held.SchemaHeld.{SchemaHeld}
use Rattle.priv_sets.specs.Levels.{grant_option, has_level, is_one_of, of_columns, of_routines, of_schemas, of_tables}
use Rattle.priv_sets.specs.StaticSet.{holds}
use Rattle.priv_sets.specs.declared.level.Level.TheVariants as level
use Rattle.priv_sets.specs.declared.privilege.Privilege.{Privilege}
use Rattle.priv_sets.specs.declared.privilege.Privilege.TheVariants.{Plain, Dynamic}

-- a privilege that exists, and has the schema level where the target stands in a schema
abbrev fits : Target → Privilege → Bool
fits target (Plain p) = nat_lt p 31 && (not (is_on_target target) || has_level level.Schema p)
fits target (Dynamic d) = nat_lt d 20

-- ---- the needs of a request fit

up_table : (c t r s g : Bool) → ((c || t) || g) ≡ true → ((((c || t) || r) || s) || g) ≡ true
up_table true t r s g h = refl
up_table false true r s g h = refl
up_table false false r s true h = or-true (r || s)
up_table false false r s false h = cc

up_routine : (c t r s g : Bool) → (r || g) ≡ true → ((((c || t) || r) || s) || g) ≡ true
up_routine c t true s g h = or_left (((c || t) || true) || s) g (or_left ((c || t) || true) s (or-true (c || t)))
up_routine c t false s true h = or-true (((c || t) || false) || s)
up_routine c t false s false h = cc

table_up : (p : ℕ) → has_level level.Table p ≡ true → has_level level.Schema p ≡ true
unfolding has_level
table_up p h = up_table (is_one_of of_columns p) (is_one_of of_tables p) (is_one_of of_routines p) (is_one_of of_schemas p) (p == grant_option) h

routine_up : (p : ℕ) → has_level level.Routine p ≡ true → has_level level.Schema p ≡ true
unfolding has_level
routine_up p h = up_routine (is_one_of of_columns p) (is_one_of of_tables p) (is_one_of of_routines p) (is_one_of of_schemas p) (p == grant_option) h

column_up : (p : ℕ) → has_level level.Column p ≡ true → has_level level.Schema p ≡ true
unfolding has_level
column_up p h = rw h refl

level_fits : (target : Target) (p : ℕ) → has_level (level_of target) p ≡ true → (not (is_on_target target) || has_level level.Schema p) ≡ true
level_fits on.Global p h = refl
level_fits (on.Schema schema) p h = h
level_fits (on.Table schema table) p h = table_up p h
level_fits (on.Function schema f) p h = routine_up p h
level_fits (on.Procedure schema f) p h = routine_up p h

from_either : (a b : Bool) → (not a || b) ≡ true → a ≡ true → b ≡ true
from_either true b either is = either
from_either false b either is = cc

module _ (target : Target) where
  abbrev fit : Need → Bool
  fit need = fits target need.privilege

  fit_append : (xs ys : List Need) → list_all fit xs ≡ true → list_all fit ys ≡ true → list_all fit (xs ++ ys) ≡ true
  fit_append xs ys front back = list_all-append fit xs ys ∙ and_from (list_all fit xs) (list_all fit ys) front back

  fit_below : (needs : ℕ → List Need) (limit n : ℕ) → ((q : ℕ) → q < limit → list_all fit (needs q) ≡ true) → n ≤ limit → list_all fit (needs_below needs n) ≡ true
  fit_below needs limit zero each within = refl
  fit_below needs limit (suc n) each within = fit_append (needs_below needs n) (needs n) (fit_below needs limit n each (omega arith)) (each n (omega arith))

  one_fits : (asks : Bool) (need : Need) → (asks ≡ true → fit need ≡ true) → list_all fit (cond asks (need ∷ []) []) ≡ true
  one_fits true need h = and_from (fit need) true (h refl) refl
  one_fits false need h = refl

  names_level : (privileges : PrivList) (p : ℕ) → p < 31 → all_below 31 (λ number. not (holds privileges.plain number) || has_level (level_of target) number) ≡ true
      → names_static privileges (level_of target) p ≡ true → has_level (level_of target) p ≡ true
  names_level privileges p below levels names =
      elim (or_cases ((privileges.all && has_level (level_of target) p) && not (p == grant_option)) (holds privileges.plain p) names) [
        | inl all ↦ (and_parts privileges.all (has_level (level_of target) p) (and_parts (privileges.all && has_level (level_of target) p) (not (p == grant_option)) all).0).1
        | inr plain ↦ from_either (holds privileges.plain p) (has_level (level_of target) p) (below_at 31 p (λ number. not (holds privileges.plain number) || has_level (level_of target) number) levels below) plain
      ]

  columns_fit : (p k : ℕ) (names : List (List ℕ)) → fits target (Plain p) ≡ true → list_all fit (columns_from p k names) ≡ true
  columns_fit p k [] h = refl
  columns_fit p k (name ∷ names) h = and_from (fits target (Plain p)) (list_all fit (columns_from p (suc k) names)) h (columns_fit p (suc k) names h)

  has_column_level : (c : ColumnPriv) → has_level level.Column c.privilege ≡ true
  unfolding is_column_list
  has_column_level c = (and_parts _ _ (and_parts _ _ (and_parts _ _ (and_parts _ _ c.listed).0).0).0).0

  list_fits : (p : ℕ) (c : ColumnPriv) → p < 31 → list_all fit (column_needs p c) ≡ true
  list_fits p c below = at (c.privilege == p) refl
    where
      at : (t : Bool) → (c.privilege == p) ≡ t → list_all fit (cond t (columns_from p 0 c.names) []) ≡ true
      at false is = refl
      at true is =
          let same : c.privilege ≡ p = eqb-true c.privilege p is in
          let high : has_level level.Schema p ≡ true = column_up p (ap (has_level level.Column) (sym same) ∙ has_column_level c) in
          columns_fit p 0 c.names (and_from (nat_lt p 31) (not (is_on_target target) || has_level level.Schema p) (lt-ltb p 31 below) (or_right (not (is_on_target target)) (has_level level.Schema p) high))

  lists_fit : (p : ℕ) (lists : List ColumnPriv) → p < 31 → list_all fit (columns_needs p lists) ≡ true
  lists_fit p [] below = refl
  lists_fit p (c ∷ lists) below = fit_append (column_needs p c) (columns_needs p lists) (list_fits p c below) (lists_fit p lists below)

  static_fit : (privileges : PrivList) (p : ℕ) → all_below 31 (λ number. not (holds privileges.plain number) || has_level (level_of target) number) ≡ true → p < 31
      → list_all fit (static_needs privileges target p) ≡ true
  static_fit privileges p levels below =
      fit_append (cond (names_static privileges (level_of target) p) (record { privilege = Plain p; column = None } ∷ []) []) (columns_needs p privileges.columns)
      (one_fits (names_static privileges (level_of target) p) (record { privilege = Plain p; column = None })
      (λ names. and_from (nat_lt p 31) (not (is_on_target target) || has_level level.Schema p) (lt-ltb p 31 below) (level_fits target p (names_level privileges p below levels names))))
      (lists_fit p privileges.columns below)

dynamic_fit : (target : Target) (privileges : PrivList) (d : ℕ) → d < 20 → list_all (fit target) (dynamic_needs privileges target d) ≡ true
dynamic_fit on.Global privileges d below = one_fits on.Global (names_dynamic privileges d) (record { privilege = Dynamic d; column = None }) (λ names. lt-ltb d 20 below)
dynamic_fit (on.Schema schema) privileges d below = refl
dynamic_fit (on.Table schema table) privileges d below = refl
dynamic_fit (on.Function schema f) privileges d below = refl
dynamic_fit (on.Procedure schema f) privileges d below = refl

levels_of_request : (request : Request) → all_below 31 (λ number. not (holds request.privileges.plain number) || has_level (level_of request.target) number) ≡ true
unfolding is_request
levels_of_request request = (and_parts _ _ (and_parts _ _ (and_parts _ _ request.fits).0).0).0

needs_fit : (request : Request) → list_all (fit request.target) (needs_of request.privileges request.target) ≡ true
needs_fit request =
    fit_append request.target (needs_below (static_needs request.privileges request.target) 31) (needs_below (dynamic_needs request.privileges request.target) 20)
    (fit_below request.target (static_needs request.privileges request.target) 31 31 (λ p below. static_fit request.target request.privileges p (levels_of_request request) below) (omega arith))
    (fit_below request.target (dynamic_needs request.privileges request.target) 20 20 (λ d below. dynamic_fit request.target request.privileges d below) (omega arith))

-- ---- each need that fits is met by the copies exactly where the states meet it

alone_in : (x : Bool) → x ≡ ((x && true) || false)
alone_in true = refl
alone_in false = refl

module _ (acting : Acting) (login used : Reading) (now : State) (read : IsReadAt acting login used) where
  abbrev read_in : Readings
  read_in = readings_of login used now acting

  limited_agrees : (target : Target) (privilege : Privilege) → fits target privilege ≡ true → is_limited acting target privilege ≡ is_restricted_at_login read_in privilege (schema_of target)
  limited_agrees on.Global (Plain p) h = refl
  limited_agrees (on.Schema schema) (Plain p) h = read.restricted schema p (and_parts (nat_lt p 31) (has_level level.Schema p) h).1
  limited_agrees (on.Table schema table) (Plain p) h = read.restricted schema p (and_parts (nat_lt p 31) (has_level level.Schema p) h).1
  limited_agrees (on.Function schema f) (Plain p) h = read.restricted schema p (and_parts (nat_lt p 31) (has_level level.Schema p) h).1
  limited_agrees (on.Procedure schema f) (Plain p) h = read.restricted schema p (and_parts (nat_lt p 31) (has_level level.Schema p) h).1
  limited_agrees target (Dynamic d) h = refl

  mask_agrees : (o : Option SchemaHeld) → IsCurrentRead o used → (schema : List ℕ) (p : ℕ) → p < 31
      → by_mask o schema p (holds_on_schema now (sources_of acting) schema p)
      ≡ (λ (r : Reading). holds_on_schema r.state r.sources schema p) (schema_reading (option_map (λ held. held.schema) o) schema used (reading_of now acting))
  mask_agrees None is schema p below = refl
  mask_agrees (Some held) is schema p below = at (text_eq held.schema schema) refl
    where
      at : (t : Bool) → text_eq held.schema schema ≡ t
          → cond t (holds held.mask p) (holds_on_schema now (sources_of acting) schema p) ≡ (λ (r : Reading). holds_on_schema r.state r.sources schema p) (cond t used (reading_of now acting))
      at true same = is p below ∙ ap (λ s. holds_on_schema used.state used.sources s p) (equal_from_text_eq held.schema schema same)
      at false other = refl

  on_schema_agrees : (o : Option (List ℕ)) (p : ℕ) → p < 31 → met_on_schema acting now o p ≡ met_by_schema read_in o p
  on_schema_agrees None p below = refl
  on_schema_agrees (Some schema) p below = mask_agrees acting.current read.current schema p below

  met_agrees : (target : Target) (need : Need) → fits target need.privilege ≡ true → is_met_by_copies acting now target need ≡ is_met read_in target need
  unfolding is_met_by_copies is_met
  met_agrees target need h = by_kind need.privilege h
    where
      by_kind : (privilege : Privilege) → fits target privilege ≡ true → is_there acting now target privilege need.column
          ≡ ((holds_globally login.state login.sources privilege && not (is_restricted_at_login read_in privilege (schema_of target))) || met_below read_in target privilege need.column)
      by_kind (Plain p) h =
          let below : p < 31 = ltb-true p 31 (and_parts (nat_lt p 31) (not (is_on_target target) || has_level level.Schema p) h).0 in
          ap (λ b. (b && not (is_limited acting target (Plain p))) || (met_on_schema acting now (schema_of target) p || met_by_object (reading_of now acting) target p need.column)) (read.plain p below)
          ∙ ap (λ b. (holds_globally login.state login.sources (Plain p) && not b) || (met_on_schema acting now (schema_of target) p || met_by_object (reading_of now acting) target p need.column)) (limited_agrees target (Plain p) h)
          ∙ ap (λ b. (holds_globally login.state login.sources (Plain p) && not (is_restricted_at_login read_in (Plain p) (schema_of target))) || (b || met_by_object (reading_of now acting) target p need.column)) (on_schema_agrees (schema_of target) p below)
      by_kind (Dynamic d) h = read.dynamic d (ltb-true d 20 h) ∙ alone_in (holds_globally login.state login.sources (Dynamic d))

  missing_agrees : (target : Target) (need : Need) → fits target need.privilege ≡ true → missing_by_copies acting target need ≡ missing_of read_in target need
  missing_agrees target need h =
      let named : Bool → Missing = λ b. record { privilege = need.privilege; on_target = is_on_target target; column = option_map (λ column. column.0) need.column; why = cond b Restricted NoGrant } in
      ap named (limited_agrees target need.privilege h)

  first_agrees : (target : Target) (needs : List Need) → list_all (fit target) needs ≡ true
      → option_map (missing_by_copies acting target) (find (λ need. not (is_met_by_copies acting now target need)) needs) ≡ option_map (missing_of read_in target) (find (λ need. not (is_met read_in target need)) needs)
  first_agrees target [] h = refl
  first_agrees target (need ∷ needs) h =
      let parts = and_parts (fits target need.privilege) (list_all (fit target) needs) h in
      ap (λ b. option_map (missing_by_copies acting target) (cond (not b) (Some need) (find (λ need. not (is_met_by_copies acting now target need)) needs))) (met_agrees target need parts.0)
      ∙ at (not (is_met read_in target need)) (missing_agrees target need parts.0) (first_agrees target needs parts.1)
    where
      at : (t : Bool) → missing_by_copies acting target need ≡ missing_of read_in target need
          → option_map (missing_by_copies acting target) (find (λ need. not (is_met_by_copies acting now target need)) needs) ≡ option_map (missing_of read_in target) (find (λ need. not (is_met read_in target need)) needs)
          → option_map (missing_by_copies acting target) (cond t (Some need) (find (λ need. not (is_met_by_copies acting now target need)) needs)) ≡ option_map (missing_of read_in target) (cond t (Some need) (find (λ need. not (is_met read_in target need)) needs))
      at true same rest = ap Some same
      at false same rest = rest

  pub verdict_agrees : (request : Request) → first_missing acting now request.target (needs_of request.privileges request.target) ≡ verdict_of read_in request.privileges request.target
  unfolding first_missing verdict_of
  verdict_agrees request = first_agrees request.target (needs_of request.privileges request.target) (needs_fit request)
