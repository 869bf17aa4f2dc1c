-- A list of privileges is meant by its own items.
use Rattle.std.proofs.Common.{◌≡◌, ◌∙◌, refl, sym, ap, ℕ, zero, suc, ◌≤◌, ◌^◌, ◌==◌, Bool, true, false, not, ◌&&◌, ◌||◌, if◌then◌else◌, List, [], ◌∷◌, ◌++◌, append-nil, map, true≢false, inl, inr, arith}
use Rattle.std.proofs.lemmas.Bool.{and_left, and_parts, and_right, cases_eq, cases_lt, eq-eqb, eqb-true, le-ltb, lt-ltb, ltb-true, ne_eqb}
use Rattle.std.proofs.lemmas.Grind.{flat_map-append}
use Rattle.std.proofs.lemmas.List.Folds.{list_any-append}
use Rattle.std.proofs.lemmas.Nat.Bits.{bit_at_above}
use Rattle.std.specs.Int.{bit_at}
use Rattle.std.specs.List.{flat_map, list_all, list_any}
use Rattle.std.specs.Prelude.{nat_lt}
use Rattle.std.specs.Str.{str_to_ascii_lowercase}
use Rattle.acl_names.proofs.SameAuth.{equal_from_text_eq}
use Rattle.acl_names.specs.Text.{is_lower, text_eq}
use Rattle.acl_stmt.specs.Columns.{is_column_list}
use Rattle.acl_stmt.specs.Lists.{all_differ_by, is_some_list}
use Rattle.acl_stmt.specs.Privileges.{are_in_order}
use Rattle.acl_stmt.specs.declared.columns.ColumnPriv.{ColumnPriv}
use Rattle.acl_stmt.specs.declared.privileges.PrivList.{PrivList}
use Rattle.priv_sets.proofs.Bits.{zero_bits}
use Rattle.priv_sets.specs.Levels.{has_level}
use Rattle.priv_sets.specs.StaticSet.{bits_of, holds, is_known}
use Rattle.priv_sets.specs.declared.level.Level.TheVariants.{Column}
use Rattle.priv_sets.specs.declared.static_set.Static.{Static}
use Rattle.priv_items.proofs.EachOnce.{each_once-differ}
use Rattle.priv_items.proofs.Lists.{no_bits, rules_of}
use Rattle.priv_items.proofs.NamedColumns.{no_level_above}
use Rattle.priv_items.proofs.OneList.{order_rest, own_columns, other_columns}
use Rattle.priv_items.specs.Canonical.{columns_at, dynamic_at, each_below, item_itself, items_of, listed_by, member_if, or_usage, static_at}
use Rattle.priv_items.specs.Meaning.{IsMeant, columns_on, each_once, names_on}
use Rattle.priv_items.specs.Naming.{columns_in, columns_of, is_dynamic, is_plain, names_dynamic, names_plain}
use Rattle.priv_items.specs.declared.item.Item.{Item}
use Rattle.priv_items.specs.declared.item.Item.TheVariants.{Plain, Columns, Dynamic}
use Rattle.priv_items.specs.declared.item.Named.TheVariants.{All, Listed}

-- what one list of columns keeps
pub record ColumnRules (listed : ColumnPriv) : Type 0 where
  pub level : has_level Column listed.privilege ≡ true
  pub lower : list_all is_lower listed.names ≡ true
  pub differ : all_differ_by text_eq listed.names ≡ true

pub column_rules : (listed : ColumnPriv) → ColumnRules listed
unfolding is_column_list
column_rules listed =
    let fifth = and_parts _ _ listed.listed in
    let fourth = and_parts _ _ fifth.0 in
    let third = and_parts _ _ fourth.0 in
    let second = and_parts _ _ third.0 in
    record { level = second.0; lower = fourth.1; differ = fifth.1 }

-- USAGE names nothing
plain-or_usage : (items : List Item) (q : ℕ) → names_plain (or_usage item_itself items) q ≡ names_plain items q
plain-or_usage [] q = refl
plain-or_usage (item ∷ items) q = refl

dynamic-or_usage : (items : List Item) (q : ℕ) → names_dynamic (or_usage item_itself items) q ≡ names_dynamic items q
dynamic-or_usage [] q = refl
dynamic-or_usage (item ∷ items) q = refl

columns-or_usage : (items : List Item) (q : ℕ) → columns_of (or_usage item_itself items) q ≡ columns_of items q
columns-or_usage [] q = refl
columns-or_usage (item ∷ items) q = refl

-- what a test finds among the items of each number below a limit, where it finds those of its own number alone
any_below : (limit q : ℕ) (test : Item → Bool) (items_at : ℕ → List Item) (held : ℕ → Bool) → ((n : ℕ) → list_any test (items_at n) ≡ (held n && q == n))
    → list_any test (each_below limit items_at) ≡ (nat_lt q limit && held q)
unfolding each_below
any_below zero q test items_at held own = sym (and_left (nat_lt q 0) (held q) (le-ltb q 0 (omega arith)))
any_below (suc limit) q test items_at held own =
    list_any-append test (each_below limit items_at) (items_at limit)
    ∙ (λ i. any_below limit q test items_at held own i || own limit i)
    ∙ elim (cases_lt q limit) [
      | inl below ↦
          (λ i. (lt-ltb q limit below i && held q) || and_right (held limit) (q == limit) (ne_eqb q limit (omega arith)) i) ∙ or_none (held q)
          ∙ sym (λ i. lt-ltb q (suc limit) (omega arith) i && held q)
      | inr above ↦ elim (cases_eq q limit) [
        | inl same ↦
            (λ i. (le-ltb q limit above i && held q) || (held (sym same i) && eq-eqb q limit same i)) ∙ and_all (held q)
            ∙ sym (λ i. lt-ltb q (suc limit) (omega arith) i && held q)
        | inr other ↦
            (λ i. (le-ltb q limit above i && held q) || and_right (held limit) (q == limit) (ne_eqb q limit other) i)
            ∙ sym (λ i. le-ltb q (suc limit) (omega arith) i && held q)
      ]
    ]
  where
    or_none : (x : Bool) → (x || false) ≡ x
    or_none true = refl
    or_none false = refl

    and_all : (x : Bool) → (x && true) ≡ x
    and_all true = refl
    and_all false = refl

none_below : (limit : ℕ) (test : Item → Bool) (items_at : ℕ → List Item) → ((n : ℕ) → list_any test (items_at n) ≡ false) → list_any test (each_below limit items_at) ≡ false
unfolding each_below
none_below zero test items_at none = refl
none_below (suc limit) test items_at none =
    list_any-append test (each_below limit items_at) (items_at limit) ∙ (λ i. none_below limit test items_at none i || none limit i)

-- the items of one number
no_test_in_columns : (test : Item → Bool) (n : ℕ) (lists : List ColumnPriv) → ((privilege : ℕ) (columns : List (List ℕ)) → test (Columns privilege columns) ≡ false)
    → list_any test (flat_map (columns_at item_itself n) lists) ≡ false
no_test_in_columns test n [] none = refl
no_test_in_columns test n (x ∷ xs) none =
    list_any-append test (columns_at item_itself n x) (flat_map (columns_at item_itself n) xs)
    ∙ (λ i. first (n == x.privilege) i || no_test_in_columns test n xs none i)
  where
    first : (b : Bool) → list_any test (member_if b (Columns x.privilege x.names)) ≡ false
    first true = ap (λ found. found || false) (none x.privilege x.names)
    first false = refl

plain_at : (list : PrivList) (q n : ℕ) → names_plain (static_at item_itself list n) q ≡ (holds list.plain n && q == n)
plain_at list q n =
    list_any-append (is_plain q) (member_if (holds list.plain n) (Plain n)) (flat_map (columns_at item_itself n) list.columns)
    ∙ (λ i. own (holds list.plain n) i || no_test_in_columns (is_plain q) n list.columns (λ privilege columns. refl) i) ∙ or_none (holds list.plain n && q == n)
  where
    or_none : (x : Bool) → (x || false) ≡ x
    or_none true = refl
    or_none false = refl

    own : (b : Bool) → list_any (is_plain q) (member_if b (Plain n)) ≡ (b && q == n)
    own true = or_none (q == n)
    own false = refl

dynamic_not_at : (list : PrivList) (q n : ℕ) → names_dynamic (static_at item_itself list n) q ≡ false
dynamic_not_at list q n =
    list_any-append (is_dynamic q) (member_if (holds list.plain n) (Plain n)) (flat_map (columns_at item_itself n) list.columns)
    ∙ (λ i. own (holds list.plain n) i || no_test_in_columns (is_dynamic q) n list.columns (λ privilege columns. refl) i)
  where
    own : (b : Bool) → list_any (is_dynamic q) (member_if b (Plain n)) ≡ false
    own true = refl
    own false = refl

dynamic_named_at : (list : PrivList) (q n : ℕ) → names_dynamic (dynamic_at item_itself list.dynamic n) q ≡ (bit_at list.dynamic n == 1 && q == n)
dynamic_named_at list q n = own (bit_at list.dynamic n == 1)
  where
    or_none : (x : Bool) → (x || false) ≡ x
    or_none true = refl
    or_none false = refl

    own : (b : Bool) → list_any (is_dynamic q) (member_if b (Dynamic n)) ≡ (b && q == n)
    own true = or_none (q == n)
    own false = refl

plain_not_at : (list : PrivList) (q n : ℕ) → names_plain (dynamic_at item_itself list.dynamic n) q ≡ false
plain_not_at list q n = own (bit_at list.dynamic n == 1)
  where
    own : (b : Bool) → list_any (is_plain q) (member_if b (Dynamic n)) ≡ false
    own true = refl
    own false = refl

-- the columns of one number
lower_stays : (names : List (List ℕ)) → list_all is_lower names ≡ true → map str_to_ascii_lowercase names ≡ names
lower_stays [] lower = refl
lower_stays (x ∷ xs) lower =
    let parts = and_parts (is_lower x) (list_all is_lower xs) lower in
    λ i. equal_from_text_eq (str_to_ascii_lowercase x) x parts.0 i ∷ lower_stays xs parts.1 i

one_item : (x : ColumnPriv) (q n : ℕ) → columns_of (columns_at item_itself n x) q ≡ (if q == n then names_on q x else [])
one_item x q n = listed_or_none (n == x.privilege) ∙ by (n == x.privilege) (q == x.privilege) (q == n) refl refl refl
  where
    listed_or_none : (b : Bool) → columns_of (member_if b (Columns x.privilege x.names)) q ≡ (if b then (if q == x.privilege then map str_to_ascii_lowercase x.names else []) else [])
    listed_or_none true = append-nil (if q == x.privilege then map str_to_ascii_lowercase x.names else [])
    listed_or_none false = refl

    by : (number own same : Bool) → (n == x.privilege) ≡ number → (q == x.privilege) ≡ own → (q == n) ≡ same
        → (if number then (if own then map str_to_ascii_lowercase x.names else []) else []) ≡ (if same then (if own then x.names else []) else [])
    by true true true p r s = lower_stays x.names (column_rules x).lower
    by true true false p r s = absurd (true≢false (sym (eq-eqb q n (eqb-true q x.privilege r ∙ sym (eqb-true n x.privilege p))) ∙ s))
    by true false true p r s = refl
    by true false false p r s = refl
    by false true true p r s = absurd (true≢false (sym (eq-eqb n x.privilege (sym (eqb-true q n s) ∙ eqb-true q x.privilege r)) ∙ p))
    by false true false p r s = refl
    by false false true p r s = refl
    by false false false p r s = refl

columns_named_at : (lists : List ColumnPriv) (q n : ℕ) → columns_of (flat_map (columns_at item_itself n) lists) q ≡ (if q == n then columns_on lists q else [])
columns_named_at [] q n = by (q == n)
  where
    nothing : List (List ℕ)
    nothing = []

    by : (b : Bool) → nothing ≡ (if b then nothing else nothing)
    by true = refl
    by false = refl
columns_named_at (x ∷ xs) q n =
    flat_map-append (columns_in q) (columns_at item_itself n x) (flat_map (columns_at item_itself n) xs) ∙ (λ i. one_item x q n i ++ columns_named_at xs q n i)
    ∙ elim (q == n) as (λ t. (if t then names_on q x else []) ++ (if t then columns_on xs q else []) ≡ (if t then names_on q x ++ columns_on xs q else [])) [ true ↦ refl | false ↦ refl ]

static_columns_at : (list : PrivList) (q n : ℕ) → columns_of (static_at item_itself list n) q ≡ (if q == n then columns_on list.columns q else [])
static_columns_at list q n =
    flat_map-append (columns_in q) (member_if (holds list.plain n) (Plain n)) (flat_map (columns_at item_itself n) list.columns)
    ∙ (λ i. own (holds list.plain n) i ++ columns_named_at list.columns q n i)
  where
    own : (b : Bool) → columns_of (member_if b (Plain n)) q ≡ []
    own true = refl
    own false = refl

columns_below : (limit q : ℕ) (list : PrivList) → columns_of (each_below limit (static_at item_itself list)) q ≡ (if nat_lt q limit then columns_on list.columns q else [])
unfolding each_below
columns_below zero q list = sym (λ i. if le-ltb q 0 (omega arith) i then columns_on list.columns q else [])
columns_below (suc limit) q list =
    flat_map-append (columns_in q) (each_below limit (static_at item_itself list)) (static_at item_itself list limit)
    ∙ (λ i. columns_below limit q list i ++ static_columns_at list q limit i)
    ∙ elim (cases_lt q limit) [
      | inl below ↦
          (λ i. (if lt-ltb q limit below i then columns_on list.columns q else []) ++ (if ne_eqb q limit (omega arith) i then columns_on list.columns q else []))
          ∙ append-nil (columns_on list.columns q) ∙ sym (λ i. if lt-ltb q (suc limit) (omega arith) i then columns_on list.columns q else [])
      | inr above ↦ elim (cases_eq q limit) [
        | inl same ↦
            (λ i. (if le-ltb q limit above i then columns_on list.columns q else []) ++ (if eq-eqb q limit same i then columns_on list.columns q else []))
            ∙ sym (λ i. if lt-ltb q (suc limit) (omega arith) i then columns_on list.columns q else [])
        | inr other ↦
            (λ i. (if le-ltb q limit above i then columns_on list.columns q else []) ++ (if ne_eqb q limit other i then columns_on list.columns q else []))
            ∙ sym (λ i. if le-ltb q (suc limit) (omega arith) i then columns_on list.columns q else [])
      ]
    ]

no_columns_below : (limit q : ℕ) (list : PrivList) → columns_of (each_below limit (dynamic_at item_itself list.dynamic)) q ≡ []
unfolding each_below
no_columns_below zero q list = refl
no_columns_below (suc limit) q list =
    flat_map-append (columns_in q) (each_below limit (dynamic_at item_itself list.dynamic)) (dynamic_at item_itself list.dynamic limit)
    ∙ (λ i. no_columns_below limit q list i ++ own (bit_at list.dynamic limit == 1) i)
  where
    own : (b : Bool) → columns_of (member_if b (Dynamic limit)) q ≡ []
    own true = refl
    own false = refl

-- numbers that are none hold nothing
no_plain_above : (plain : Static) (q : ℕ) → is_known plain ≡ true → 31 ≤ q → holds plain q ≡ false
unfolding holds
no_plain_above plain q known above = ap (λ bit. bit == 1) (bit_at_above plain.0 31 q (ltb-true plain.0 (2 ^ 31) known) above)

no_dynamic_above : (dynamic q : ℕ) → nat_lt dynamic (2 ^ 20) ≡ true → 20 ≤ q → (bit_at dynamic q == 1) ≡ false
no_dynamic_above dynamic q below above = ap (λ bit. bit == 1) (bit_at_above dynamic 20 q (ltb-true dynamic (2 ^ 20) below) above)

no_columns_above : (lists : List ColumnPriv) (q : ℕ) → 31 ≤ q → columns_on lists q ≡ []
no_columns_above [] q above = refl
no_columns_above (x ∷ xs) q above =
    elim (cases_eq q x.privilege) [
      | inl same ↦ absurd (true≢false (sym (ap (has_level Column) same ∙ (column_rules x).level) ∙ no_level_above q above))
      | inr other ↦ other_columns x xs q other ∙ no_columns_above xs q above
    ]

within : (limit q : ℕ) (held : Bool) → (limit ≤ q → held ≡ false) → (nat_lt q limit && held) ≡ held
within limit q held above =
    elim (cases_lt q limit) [
      | inl below ↦ λ i. lt-ltb q limit below i && held
      | inr outside ↦ (λ i. le-ltb q limit outside i && held) ∙ sym (above outside)
    ]

columns_within_all : (lists : List ColumnPriv) (q : ℕ) → (if nat_lt q 31 then columns_on lists q else []) ≡ columns_on lists q
columns_within_all lists q =
    elim (cases_lt q 31) [
      | inl below ↦ λ i. if lt-ltb q 31 below i then columns_on lists q else []
      | inr outside ↦ (λ i. if le-ltb q 31 outside i then columns_on lists q else []) ∙ sym (no_columns_above lists q outside)
    ]

-- the columns of one privilege differ
columns_differ : (lists : List ColumnPriv) (q : ℕ) → are_in_order lists ≡ true → all_differ_by text_eq (columns_on lists q) ≡ true
columns_differ [] q order = refl
columns_differ (x ∷ xs) q order =
    elim (cases_eq q x.privilege) [
      | inl same ↦ ap (all_differ_by text_eq) (ap (columns_on (x ∷ xs)) same ∙ own_columns x xs order) ∙ (column_rules x).differ
      | inr other ↦ ap (all_differ_by text_eq) (other_columns x xs q other) ∙ columns_differ xs q (order_rest x xs order)
    ]

no_lists_from : (lists : List ColumnPriv) → not (is_some_list lists) ≡ true → lists ≡ []
no_lists_from [] none = refl
no_lists_from (x ∷ xs) none = absurd (true≢false (sym none))

own_all : (list : PrivList) → list.all ≡ true → IsMeant All list
own_all list all =
    let rules = rules_of list.all list.plain list.columns list.dynamic list.listed in
    let alone : (bits_of list.plain == 0 && not (is_some_list list.columns) && list.dynamic == 0) ≡ true =
    sym (ap (λ all. not all || bits_of list.plain == 0 && not (is_some_list list.columns) && list.dynamic == 0) all) ∙ rules.alone in
    let outer = and_parts (bits_of list.plain == 0 && not (is_some_list list.columns)) (list.dynamic == 0) alone in
    let inner = and_parts (bits_of list.plain == 0) (not (is_some_list list.columns)) outer.0 in
    record {
      all = all;
      plain = λ q. no_bits list.plain q (eqb-true (bits_of list.plain) 0 inner.0);
      columns = λ q. ap (λ lists. columns_on lists q) (no_lists_from list.columns inner.1);
      dynamic = λ q. ap (λ bits. bit_at bits q == 1) (eqb-true list.dynamic 0 outer.1) ∙ zero_bits q;
    }

own_listed : (list : PrivList) → list.all ≡ false → IsMeant (Listed (listed_by item_itself list)) list
own_listed list all =
    let rules = rules_of list.all list.plain list.columns list.dynamic list.listed in
    let statics : List Item = each_below 31 (static_at item_itself list) in
    let dynamics : List Item = each_below 20 (dynamic_at item_itself list.dynamic) in
    record {
      all = all;
      plain = λ q. sym (plain-or_usage (statics ++ dynamics) q ∙ list_any-append (is_plain q) statics dynamics
          ∙ (λ i. any_below 31 q (is_plain q) (static_at item_itself list) (holds list.plain) (plain_at list q) i || none_below 20 (is_plain q) (dynamic_at item_itself list.dynamic) (plain_not_at list q) i)
          ∙ or_none (nat_lt q 31 && holds list.plain q) ∙ within 31 q (holds list.plain q) (no_plain_above list.plain q rules.known));
      columns = λ q. sym (ap each_once (columns-or_usage (statics ++ dynamics) q ∙ flat_map-append (columns_in q) statics dynamics
          ∙ (λ i. columns_below 31 q list i ++ no_columns_below 20 q list i)
          ∙ append-nil (if nat_lt q 31 then columns_on list.columns q else []) ∙ columns_within_all list.columns q)
          ∙ each_once-differ (columns_on list.columns q) (columns_differ list.columns q rules.order));
      dynamic = λ q. sym (dynamic-or_usage (statics ++ dynamics) q ∙ list_any-append (is_dynamic q) statics dynamics
          ∙ (λ i. none_below 31 (is_dynamic q) (static_at item_itself list) (dynamic_not_at list q) i || any_below 20 q (is_dynamic q) (dynamic_at item_itself list.dynamic) (λ n. bit_at list.dynamic n == 1) (dynamic_named_at list q) i)
          ∙ within 20 q (bit_at list.dynamic q == 1) (no_dynamic_above list.dynamic q rules.below));
    }
  where
    or_none : (x : Bool) → (x || false) ≡ x
    or_none true = refl
    or_none false = refl

pub own_items : (list : PrivList) → IsMeant (items_of list) list
own_items list = by list.all refl
  where
    by : (all : Bool) → list.all ≡ all → IsMeant (if all then All else Listed (listed_by item_itself list)) list
    by true all = own_all list all
    by false all = own_listed list all
