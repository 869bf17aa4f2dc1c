-- The own items of a list have the levels that the list has.
use Rattle.std.proofs.Common.{◌≡◌, ◌∙◌, refl, sym, ap, ℕ, zero, suc, ◌<◌, ◌==◌, Bool, true, false, not, ◌||◌, if◌then◌else◌, List, [], ◌∷◌, ◌++◌, true≢false, inl, inr, arith}
use Rattle.std.proofs.lemmas.Bool.{and_from, and_parts, cases_eq, eqb-true, or_right}
use Rattle.std.specs.Int.{bit_at}
use Rattle.std.specs.List.{flat_map}
use Rattle.std.specs.Prelude.{None}
use Rattle.acl_names.proofs.SameAuth.{equal_from_text_eq}
use Rattle.acl_stmt.specs.Lists.{is_some_list}
use Rattle.acl_stmt.specs.Requests.{all_below, have_levels, is_request}
use Rattle.acl_stmt.specs.Targets.{is_table, is_target, level_of}
use Rattle.acl_stmt.specs.declared.columns.ColumnPriv.{ColumnPriv}
use Rattle.acl_stmt.specs.declared.privileges.PrivList.{PrivList}
use Rattle.acl_stmt.specs.declared.target.Target.{Target}
use Rattle.acl_stmt.specs.declared.target.Target.TheVariants as on
use Rattle.priv_sets.proofs.Bits.{zero_bits}
use Rattle.priv_sets.specs.Levels.{has_level}
use Rattle.priv_sets.specs.Privileges.{is_global_level}
use Rattle.priv_sets.specs.StaticSet.{holds}
use Rattle.priv_sets.specs.declared.level.Level.TheVariants.{Column}
use Rattle.priv_sets.specs.declared.privilege.Privilege.TheVariants as privilege
use Rattle.priv_items.proofs.Fits.{neither}
use Rattle.priv_items.proofs.OwnItems.{column_rules}
use Rattle.priv_items.specs.Canonical.{columns_at, dynamic_at, each_below, item_itself, items_of, listed_by, member_if, or_usage, static_at}
use Rattle.priv_items.specs.LevelRefusals.{first_wrong, or_else, unless, wrong_in, wrong_level}
use Rattle.priv_items.specs.Lowered.{lowered_target}
use Rattle.priv_items.specs.declared.item.Item.{Item}
use Rattle.priv_items.specs.declared.item.Item.TheVariants.{Plain, Columns, Dynamic}
use Rattle.priv_items.specs.declared.item.Named.TheVariants.{All, Listed}

both_fit : (target : Target) (first rest : List Item) → first_wrong target first ≡ None → first_wrong target rest ≡ None → first_wrong target (first ++ rest) ≡ None
both_fit target [] rest none others = others
both_fit target (item ∷ items) rest none others =
    let parts = neither (wrong_in target item) (first_wrong target items) none in
    ap (λ wrong. or_else wrong (first_wrong target (items ++ rest))) parts.0 ∙ both_fit target items rest parts.1 others

below_fit : (target : Target) (limit : ℕ) (items_at : ℕ → List Item) → ((n : ℕ) → n < limit → first_wrong target (items_at n) ≡ None) → first_wrong target (each_below limit items_at) ≡ None
unfolding each_below
below_fit target zero items_at fit = refl
below_fit target (suc limit) items_at fit =
    both_fit target (each_below limit items_at) (items_at limit) (below_fit target limit items_at (λ n below. fit n (omega arith))) (fit limit (omega arith))

usage_fits : (target : Target) (items : List Item) → first_wrong target items ≡ None → first_wrong target (or_usage item_itself items) ≡ None
usage_fits target [] none = refl
usage_fits target (item ∷ items) none = none

-- one test of all below a limit
one_of_all : (limit : ℕ) (test : ℕ → Bool) (n : ℕ) → all_below limit test ≡ true → n < limit → test n ≡ true
one_of_all zero test n every below = absurd (omega arith)
one_of_all (suc limit) test n every below =
    let parts = and_parts (all_below limit test) (test limit) every in
    elim (cases_eq n limit) [
      | inl same ↦ ap test same ∙ parts.1
      | inr other ↦ one_of_all limit test n parts.0 (omega arith)
    ]

plain_item_fits : (target : Target) (n : ℕ) (held : Bool) → (not held || has_level (level_of target) n) ≡ true → first_wrong target (member_if held (Plain n)) ≡ None
plain_item_fits target n true level = ap (λ granted. or_else (unless granted (privilege.Plain n)) None) level
plain_item_fits target n false level = refl

column_item_fits : (target : Target) (x : ColumnPriv) (named : Bool) → is_table target ≡ true → first_wrong target (member_if named (Columns x.privilege x.names)) ≡ None
column_item_fits target x true table =
    ap (λ granted. or_else (unless granted (privilege.Plain x.privilege)) None) (and_from (has_level Column x.privilege) (is_table target) (column_rules x).level table)
column_item_fits target x false table = refl

columns_items_fit : (target : Target) (n : ℕ) (lists : List ColumnPriv) → (not (is_some_list lists) || is_table target) ≡ true → first_wrong target (flat_map (columns_at item_itself n) lists) ≡ None
columns_items_fit target n [] table = refl
columns_items_fit target n (x ∷ xs) table =
    both_fit target (columns_at item_itself n x) (flat_map (columns_at item_itself n) xs) (column_item_fits target x (n == x.privilege) table) (columns_items_fit target n xs (ap (λ t. not (is_some_list xs) || t) table ∙ or_right (not (is_some_list xs)) true refl))

dynamic_item_fits : (target : Target) (n : ℕ) (dynamic : ℕ) → (dynamic == 0 || is_global_level (level_of target)) ≡ true → first_wrong target (member_if (bit_at dynamic n == 1) (Dynamic n)) ≡ None
dynamic_item_fits target n dynamic level = by (bit_at dynamic n == 1) (dynamic == 0) refl refl level
  where
    by : (held none : Bool) → (bit_at dynamic n == 1) ≡ held → (dynamic == 0) ≡ none → (none || is_global_level (level_of target)) ≡ true → first_wrong target (member_if held (Dynamic n)) ≡ None
    by false none p r level = refl
    by true true p r level = absurd (true≢false (sym p ∙ ap (λ bits. bit_at bits n == 1) (eqb-true dynamic 0 r) ∙ zero_bits n))
    by true false p r level = ap (λ granted. or_else (unless granted (privilege.Dynamic n)) None) level

pub own_items_fit_target : (list : PrivList) (target : Target) → is_request list target ≡ true → wrong_level (items_of list) target ≡ None
unfolding is_request
own_items_fit_target list target fits =
    let levels = and_parts (have_levels list target) (is_target target) fits in
    let outer = and_parts _ _ levels.0 in
    let inner = and_parts _ _ outer.0 in
    let statics = below_fit target 31 (static_at item_itself list) (λ n below. both_fit target (member_if (holds list.plain n) (Plain n)) (flat_map (columns_at item_itself n) list.columns)
    (plain_item_fits target n (holds list.plain n) (one_of_all 31 (λ q. not (holds list.plain q) || has_level (level_of target) q) n inner.0 below))
    (columns_items_fit target n list.columns inner.1)) in
    let dynamics = below_fit target 20 (dynamic_at item_itself list.dynamic) (λ n below. dynamic_item_fits target n list.dynamic outer.1) in
    by list.all (usage_fits target (each_below 31 (static_at item_itself list) ++ each_below 20 (dynamic_at item_itself list.dynamic))
    (both_fit target (each_below 31 (static_at item_itself list)) (each_below 20 (dynamic_at item_itself list.dynamic)) statics dynamics))
  where
    by : (all : Bool) → first_wrong target (listed_by item_itself list) ≡ None
        → wrong_level (if all then All else Listed (listed_by item_itself list)) target ≡ None
    by true none = refl
    by false none = none

pub lowered_stays : (target : Target) → is_target target ≡ true → lowered_target target ≡ target
lowered_stays on.Global lower = refl
lowered_stays (on.Schema schema) lower = refl
lowered_stays (on.Table schema table) lower = refl
lowered_stays (on.Function schema name) lower = ap (on.Function schema) (equal_from_text_eq _ _ lower)
lowered_stays (on.Procedure schema name) lower = ap (on.Procedure schema) (equal_from_text_eq _ _ lower)
