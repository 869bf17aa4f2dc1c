-- What is named without a wrong level makes a request.
use Rattle.std.proofs.Common.{◌≡◌, ◌∙◌, refl, sym, ap, ℕ, zero, suc, ◌==◌, Bool, true, false, not, ◌&&◌, ◌||◌, if◌then◌else◌, List, [], ◌∷◌, ◌++◌, true≢false, cond}
use Rattle.std.proofs.lemmas.Bool.{and_from, and_parts, eq-eqb, eqb-true, or_right}
use Rattle.std.specs.Int.{bit_at}
use Rattle.std.specs.List.{filter, list_all}
use Rattle.std.specs.Prelude.{Option, Some, None}
use Rattle.acl_names.proofs.LowerTexts.{lowered_is_lower}
use Rattle.acl_stmt.specs.Columns.{is_column_list}
use Rattle.acl_stmt.specs.Lists.{is_some_list}
use Rattle.acl_stmt.specs.Requests.{all_below, have_levels, is_request}
use Rattle.acl_stmt.specs.Targets.{is_table, is_target, level_of}
use Rattle.acl_stmt.specs.declared.columns.ColumnPriv.{ColumnPriv}
use Rattle.acl_stmt.specs.declared.privileges.PrivList.{PrivList}
use Rattle.acl_stmt.specs.declared.target.Target.{Target}
use Rattle.acl_stmt.specs.declared.target.Target.TheVariants as on
use Rattle.priv_sets.proofs.Bits.{empty_from_none}
use Rattle.priv_sets.specs.Levels.{has_level}
use Rattle.priv_sets.specs.Privileges.{is_global_level}
use Rattle.priv_sets.specs.StaticSet.{holds}
use Rattle.priv_sets.specs.declared.level.Level.TheVariants.{Column}
use Rattle.priv_sets.specs.declared.privilege.Privilege.{Privilege}
use Rattle.priv_items.specs.LevelRefusals.{first_wrong, or_else, unless, wrong_in, wrong_level}
use Rattle.priv_items.specs.Lowered.{lowered_target}
use Rattle.priv_items.specs.Meaning.{IsMeant, columns_on, each_once}
use Rattle.priv_items.specs.Naming.{columns_of, items_in, may_stand, names_dynamic, names_plain}
use Rattle.priv_items.specs.declared.item.Item.{Item}
use Rattle.priv_items.specs.declared.item.Item.TheVariants.{Plain, Columns, Dynamic, Usage}
use Rattle.priv_items.specs.declared.item.Named.{Named}

pub neither : (first later : Option Privilege) → or_else first later ≡ None → (first ≡ None) × (later ≡ None)
neither None later none = (refl, none)
neither (Some privilege) later none = absurd (cc)

granted : (given : Bool) (named : Privilege) → unless given named ≡ None → given ≡ true
granted true named none = refl
granted false named none = absurd (cc)

-- each item of a list without a wrong level
module _ (target : Target) where
  pub plain_fits : (items : List Item) (q : ℕ) → first_wrong target items ≡ None → names_plain items q ≡ true → has_level (level_of target) q ≡ true
  plain_fits [] q none named = absurd (true≢false (sym named))
  plain_fits (Plain privilege ∷ items) q none named =
      let parts = neither (wrong_in target (Plain privilege)) (first_wrong target items) none in
      by (plain_fits items q parts.1) (granted (has_level (level_of target) privilege) _ parts.0) (q == privilege) refl named
    where
      by : (names_plain items q ≡ true → has_level (level_of target) q ≡ true) → has_level (level_of target) privilege ≡ true → (b : Bool) → (q == privilege) ≡ b → (b || names_plain items q) ≡ true → has_level (level_of target) q ≡ true
      by later first true same named = ap (has_level (level_of target)) (eqb-true q privilege same) ∙ first
      by later first false same named = later named
  plain_fits (Columns privilege columns ∷ items) q none named = plain_fits items q (neither (wrong_in target (Columns privilege columns)) (first_wrong target items) none).1 named
  plain_fits (Dynamic privilege ∷ items) q none named = plain_fits items q (neither (wrong_in target (Dynamic privilege)) (first_wrong target items) none).1 named
  plain_fits (Usage ∷ items) q none named = plain_fits items q none named

  pub dynamic_fits : (items : List Item) (q : ℕ) → first_wrong target items ≡ None → names_dynamic items q ≡ true → is_global_level (level_of target) ≡ true
  dynamic_fits [] q none named = absurd (true≢false (sym named))
  dynamic_fits (Plain privilege ∷ items) q none named = dynamic_fits items q (neither (wrong_in target (Plain privilege)) (first_wrong target items) none).1 named
  dynamic_fits (Columns privilege columns ∷ items) q none named = dynamic_fits items q (neither (wrong_in target (Columns privilege columns)) (first_wrong target items) none).1 named
  dynamic_fits (Dynamic privilege ∷ items) q none named = granted (is_global_level (level_of target)) _ (neither (wrong_in target (Dynamic privilege)) (first_wrong target items) none).0
  dynamic_fits (Usage ∷ items) q none named = dynamic_fits items q none named

  pub columns_fit : (items : List Item) (q : ℕ) → first_wrong target items ≡ None → is_table target ≡ false → columns_of items q ≡ []
  columns_fit [] q none other = refl
  columns_fit (Plain privilege ∷ items) q none other = columns_fit items q (neither (wrong_in target (Plain privilege)) (first_wrong target items) none).1 other
  columns_fit (Columns privilege columns ∷ items) q none other =
      let first = granted (has_level Column privilege && is_table target) _ (neither (wrong_in target (Columns privilege columns)) (first_wrong target items) none).0 in
      absurd (true≢false (sym (and_parts (has_level Column privilege) (is_table target) first).1 ∙ other))
  columns_fit (Dynamic privilege ∷ items) q none other = columns_fit items q (neither (wrong_in target (Dynamic privilege)) (first_wrong target items) none).1 other
  columns_fit (Usage ∷ items) q none other = columns_fit items q none other

  -- columns stand with privileges that have the column level
  pub may_stand_from : (items : List Item) → first_wrong target items ≡ None → list_all may_stand items ≡ true
  may_stand_from [] none = refl
  may_stand_from (Plain privilege ∷ items) none = may_stand_from items (neither (wrong_in target (Plain privilege)) (first_wrong target items) none).1
  may_stand_from (Columns privilege columns ∷ items) none =
      let parts = neither (wrong_in target (Columns privilege columns)) (first_wrong target items) none in
      let first = granted (has_level Column privilege && is_table target) _ parts.0 in
      and_from (has_level Column privilege) (list_all may_stand items) (and_parts (has_level Column privilege) (is_table target) first).0 (may_stand_from items parts.1)
  may_stand_from (Dynamic privilege ∷ items) none = may_stand_from items (neither (wrong_in target (Dynamic privilege)) (first_wrong target items) none).1
  may_stand_from (Usage ∷ items) none = may_stand_from items none

  -- some of the items have no wrong level either
  pub filter_fits : (keep : Item → Bool) (items : List Item) → first_wrong target items ≡ None → first_wrong target (filter keep items) ≡ None
  filter_fits keep [] none = refl
  filter_fits keep (item ∷ items) none =
      let parts = neither (wrong_in target item) (first_wrong target items) none in
      elim (keep item) as (λ t. first_wrong target (cond t (item ∷ filter keep items) (filter keep items)) ≡ None) [
        | true ↦ ap (λ first. or_else first (first_wrong target (filter keep items))) parts.0 ∙ filter_fits keep items parts.1
        | false ↦ filter_fits keep items parts.1
      ]

all_from : (limit : ℕ) (test : ℕ → Bool) → ((q : ℕ) → test q ≡ true) → all_below limit test ≡ true
all_from zero test every = refl
all_from (suc limit) test every = and_from (all_below limit test) (test limit) (all_from limit test every) (every limit)

-- without columns there is no list of them
pub is_empty_from : {A : Type 0} (names others : List A) → is_some_list names ≡ true → names ++ others ≡ [] → ⊥
is_empty_from [] others some none = true≢false (sym some)
is_empty_from (x ∷ xs) others some none = cc

pub some_names : (listed : ColumnPriv) → is_some_list listed.names ≡ true
unfolding is_column_list
some_names listed =
    let parts = and_parts _ _ (and_parts _ _ (and_parts _ _ (and_parts _ _ listed.listed).0).0).0 in
    parts.1

pub no_lists : (lists : List ColumnPriv) → ((q : ℕ) → columns_on lists q ≡ []) → not (is_some_list lists) ≡ true
no_lists [] none = refl
no_lists (x ∷ xs) none =
    absurd (is_empty_from x.names (columns_on xs x.privilege) (some_names x) (sym (λ i. (if eq-eqb x.privilege x.privilege refl i then x.names else []) ++ columns_on xs x.privilege) ∙ none x.privilege))

-- a target in lower case has the same level
lowered_level : (target : Target) → level_of (lowered_target target) ≡ level_of target
lowered_level on.Global = refl
lowered_level (on.Schema schema) = refl
lowered_level (on.Table schema table) = refl
lowered_level (on.Function schema name) = refl
lowered_level (on.Procedure schema name) = refl

lowered_table : (target : Target) → is_table (lowered_target target) ≡ is_table target
lowered_table on.Global = refl
lowered_table (on.Schema schema) = refl
lowered_table (on.Table schema table) = refl
lowered_table (on.Function schema name) = refl
lowered_table (on.Procedure schema name) = refl

lowered_is_target : (target : Target) → is_target (lowered_target target) ≡ true
lowered_is_target on.Global = refl
lowered_is_target (on.Schema schema) = refl
lowered_is_target (on.Table schema table) = refl
lowered_is_target (on.Function schema name) = lowered_is_lower name
lowered_is_target (on.Procedure schema name) = lowered_is_lower name

implied : (a b : Bool) → (a ≡ true → b ≡ true) → (not a || b) ≡ true
implied true b follows = follows refl
implied false b follows = refl

not_true : (a : Bool) → (a ≡ true → ⊥) → a ≡ false
not_true true never = absurd (never refl)
not_true false never = refl

columns_or_table : (lists : List ColumnPriv) (table : Bool) → (table ≡ false → (q : ℕ) → columns_on lists q ≡ []) → (not (is_some_list lists) || table) ≡ true
columns_or_table lists true none = or_right (not (is_some_list lists)) true refl
columns_or_table lists false none = ap (λ empty. empty || false) (no_lists lists (none refl))

dynamic_or_global : (dynamic : ℕ) (global : Bool) → (global ≡ false → (q : ℕ) → (bit_at dynamic q == 1) ≡ false) → (dynamic == 0 || global) ≡ true
dynamic_or_global dynamic true none = or_right (dynamic == 0) true refl
dynamic_or_global dynamic false none = ap (λ empty. empty || false) (eq-eqb dynamic 0 (empty_from_none dynamic (none refl)))

pub request_from_meant : (named : Named) (target : Target) (list : PrivList) → IsMeant named list → wrong_level named target ≡ None → is_request list (lowered_target target) ≡ true
unfolding is_request
request_from_meant named target list meant none =
    let items : List Item = items_in named in
    let plain : (q : ℕ) → (not (holds list.plain q) || has_level (level_of (lowered_target target)) q) ≡ true =
    λ q. implied (holds list.plain q) (has_level (level_of (lowered_target target)) q) (λ held. ap (λ level. has_level level q) (lowered_level target) ∙ plain_fits target items q none (sym (meant.plain q) ∙ held)) in
    let columns = columns_or_table list.columns (is_table (lowered_target target)) (λ other q. meant.columns q ∙ ap each_once (columns_fit target items q none (sym (lowered_table target) ∙ other))) in
    let dynamic = dynamic_or_global list.dynamic (is_global_level (level_of (lowered_target target)))
    (λ other q. meant.dynamic q ∙ not_true (names_dynamic items q) (λ held. true≢false (sym (ap is_global_level (lowered_level target) ∙ dynamic_fits target items q none held) ∙ other))) in
    and_from (have_levels list (lowered_target target)) (is_target (lowered_target target))
    (and_from (all_below 31 (λ q. not (holds list.plain q) || has_level (level_of (lowered_target target)) q) && (not (is_some_list list.columns) || is_table (lowered_target target))) _
    (and_from (all_below 31 (λ q. not (holds list.plain q) || has_level (level_of (lowered_target target)) q)) _ (all_from 31 _ plain) columns) dynamic)
    (lowered_is_target target)
