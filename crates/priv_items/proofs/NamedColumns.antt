-- What the columns of a privilege are, where columns stand with privileges that have the column level alone.
use Rattle.std.proofs.Common.{◌≡◌, ◌∙◌, refl, sym, ap, ℕ, ◌<◌, ◌≤◌, ◌^◌, ◌==◌, Bool, true, false, ◌&&◌, if◌then◌else◌, List, [], ◌∷◌, ◌++◌, length, map, true≢false, inl, inr, arith}
use Rattle.std.proofs.lemmas.Bool.{and_from, and_parts, cases_lt, eqb-true, le-ltb, lt-ltb}
use Rattle.std.proofs.lemmas.Bool.Decides.{nat_tests}
use Rattle.std.proofs.lemmas.List.Concat.{length-flat_map}
use Rattle.std.proofs.lemmas.List.Folds.{list_all-append}
use Rattle.std.proofs.lemmas.List.Sums.{sum_by-le-sum_by}
use Rattle.std.proofs.lemmas.List.{length-map}
use Rattle.std.specs.List.{list_all}
use Rattle.std.specs.Prelude.{nat_lt}
use Rattle.std.specs.Str.{str_to_ascii_lowercase}
use Rattle.acl_names.proofs.LowerTexts.{lowered_is_lower}
use Rattle.acl_names.specs.Text.{is_lower, text_eq}
use Rattle.acl_stmt.specs.Columns.{is_column_list}
use Rattle.acl_stmt.specs.Lists.{all_differ_by, is_some_list}
use Rattle.acl_stmt.specs.declared.columns.ColumnPriv.{ColumnPriv}
use Rattle.priv_sets.specs.Levels.{has_level}
use Rattle.priv_sets.specs.declared.level.Level.TheVariants.{Column}
use Rattle.priv_items.proofs.EachOnce.{all_differ-each_once, length-each_once, list_all-each_once}
use Rattle.priv_items.specs.Meaning.{columns_on, each_once}
use Rattle.priv_items.specs.Naming.{column_count, columns_in, columns_of, columns_within, may_stand}
use Rattle.priv_items.specs.declared.item.Item.{Item}
use Rattle.priv_items.specs.declared.item.Item.TheVariants.{Plain, Columns, Dynamic, Usage}

-- each in lower case
lower-map : (columns : List (List ℕ)) → list_all is_lower (map str_to_ascii_lowercase columns) ≡ true
lower-map [] = refl
lower-map (x ∷ xs) =
    and_from (is_lower (str_to_ascii_lowercase x)) (list_all is_lower (map str_to_ascii_lowercase xs)) (lowered_is_lower x) (lower-map xs)

lower-columns_in : (number : ℕ) (item : Item) → list_all is_lower (columns_in number item) ≡ true
lower-columns_in number (Plain privilege) = refl
lower-columns_in number (Columns privilege columns) =
    elim (number == privilege) as (λ t. list_all is_lower (if t then map str_to_ascii_lowercase columns else []) ≡ true) [ true ↦ lower-map columns | false ↦ refl ]
lower-columns_in number (Dynamic privilege) = refl
lower-columns_in number Usage = refl

pub lower-columns_of : (items : List Item) (number : ℕ) → list_all is_lower (columns_of items number) ≡ true
lower-columns_of [] number = refl
lower-columns_of (item ∷ items) number =
    list_all-append is_lower (columns_in number item) (columns_of items number)
    ∙ and_from (list_all is_lower (columns_in number item)) (list_all is_lower (columns_of items number)) (lower-columns_in number item) (lower-columns_of items number)

-- a privilege without the column level has none
no_columns_in : (number : ℕ) (item : Item) → has_level Column number ≡ false → may_stand item ≡ true → columns_in number item ≡ []
no_columns_in number (Plain privilege) without may = refl
no_columns_in number (Columns privilege columns) without may = by (number == privilege) refl
  where
    by : (b : Bool) → (number == privilege) ≡ b → (if b then map str_to_ascii_lowercase columns else []) ≡ []
    by true p = absurd (true≢false (sym may ∙ ap (has_level Column) (sym (eqb-true number privilege p)) ∙ without))
    by false p = refl
no_columns_in number (Dynamic privilege) without may = refl
no_columns_in number Usage without may = refl

pub no_columns_of : (items : List Item) (number : ℕ) → has_level Column number ≡ false → list_all may_stand items ≡ true → columns_of items number ≡ []
no_columns_of [] number without may = refl
no_columns_of (item ∷ items) number without may =
    let parts = and_parts (may_stand item) (list_all may_stand items) may in
    λ i. no_columns_in number item without parts.0 i ++ no_columns_of items number without parts.1 i

-- no more than all items name
length-columns_in : (number : ℕ) (item : Item) → length (columns_in number item) ≤ columns_within item
length-columns_in number (Plain privilege) = omega arith
length-columns_in number (Columns privilege columns) =
    let same : length (map str_to_ascii_lowercase columns) ≡ length columns = length-map columns str_to_ascii_lowercase in
    elim (number == privilege) as (λ t. length (if t then map str_to_ascii_lowercase columns else []) ≤ length columns) [ true ↦ omega arith | false ↦ omega arith ]
length-columns_in number (Dynamic privilege) = omega arith
length-columns_in number Usage = omega arith

pub length-columns_of : (items : List Item) (number : ℕ) → length (columns_of items number) ≤ column_count items
length-columns_of items number =
    let total = length-flat_map (columns_in number) items in
    let each = sum_by-le-sum_by (λ item. length (columns_in number item)) columns_within items (length-columns_in number) in
    omega arith

is_some-cons : {A : Type 0} (list : List A) → (list ≡ [] → ⊥) → is_some_list list ≡ true
is_some-cons [] some = absurd (some refl)
is_some-cons (x ∷ xs) some = refl

level_of_columns : (items : List Item) (number : ℕ) → list_all may_stand items ≡ true → (each_once (columns_of items number) ≡ [] → ⊥) → has_level Column number ≡ true
level_of_columns items number may some = by (has_level Column number) refl
  where
    by : (b : Bool) → has_level Column number ≡ b → b ≡ true
    by true p = refl
    by false p = absurd (some (ap each_once (no_columns_of items number p may)))

-- what is named with columns makes a list of columns
pub listed_columns : (items : List Item) (number : ℕ) → list_all may_stand items ≡ true → column_count items < 2 ^ 32 → (each_once (columns_of items number) ≡ [] → ⊥)
    → is_column_list number (each_once (columns_of items number)) ≡ true
unfolding is_column_list
listed_columns items number may few some =
    let names : List (List ℕ) = each_once (columns_of items number) in
    let short = length-each_once (columns_of items number) in
    let within = length-columns_of items number in
    let level = level_of_columns items number may some in
    let nonempty = is_some-cons names some in
    let fits = lt-ltb (length names) (2 ^ 32) (omega arith) in
    let lower = list_all-each_once is_lower (columns_of items number) (lower-columns_of items number) in
    let differ = all_differ-each_once (columns_of items number) in
    and_from (has_level Column number && is_some_list names && nat_lt (length names) (2 ^ 32) && list_all is_lower names) (all_differ_by text_eq names)
    (and_from (has_level Column number && is_some_list names && nat_lt (length names) (2 ^ 32)) (list_all is_lower names)
    (and_from (has_level Column number && is_some_list names) (nat_lt (length names) (2 ^ 32)) (and_from (has_level Column number) (is_some_list names) level nonempty) fits)
    lower)
    differ

pub listed_columns_of : (items : List Item) (number privilege : ℕ) (names : List (List ℕ)) → number ≡ privilege → names ≡ each_once (columns_of items privilege)
    → list_all may_stand items ≡ true → column_count items < 2 ^ 32 → (names ≡ [] → ⊥) → is_column_list number names ≡ true
listed_columns_of items number privilege names same are may few some =
    (λ i. is_column_list (same i) (are i)) ∙ listed_columns items privilege may few (λ none. some (are ∙ none))

-- no privilege from 31 on has the column level
pub no_level_above : (number : ℕ) → 31 ≤ number → has_level Column number ≡ false
unfolding has_level
no_level_above number above = grind (arith, nat_tests)

-- so all columns are listed where those of each privilege below 31 are
pub all_columns : (items : List Item) (lists : List ColumnPriv) (limit : ℕ) → 31 ≤ limit → list_all may_stand items ≡ true
    → ((q : ℕ) → columns_on lists q ≡ (if nat_lt q limit then each_once (columns_of items q) else [])) → (q : ℕ) → columns_on lists q ≡ each_once (columns_of items q)
all_columns items lists limit enough may below q =
    elim (cases_lt q limit) [
      | inl inside ↦ below q ∙ (λ i. if lt-ltb q limit inside i then each_once (columns_of items q) else [])
      | inr above ↦ below q ∙ (λ i. if le-ltb q limit above i then each_once (columns_of items q) else []) ∙ sym (ap each_once (no_columns_of items q (no_level_above q (omega arith)) may))
    ]
