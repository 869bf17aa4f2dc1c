-- What the lists of columns name that are made of tests.
use Rattle.std.proofs.Common.{◌≡◌, ◌∙◌, ap, sym, refl, ℕ, zero, suc, ◌+◌, ◌<◌, ◌≤◌, ◌^◌, ◌==◌, nat_lt, Bool, true, false, cond, not, ◌&&◌, ◌||◌, List, [], ◌∷◌, length, filter, inl, inr, arith}
use Rattle.std.proofs.Math.Bool.{or-false}
use Rattle.std.proofs.lemmas.Bool.{and_from, and_parts, cases_eq, cases_lt, eq-eqb, lt-ltb, ne_eqb, not-true, not_from_false, or_parts}
use Rattle.std.proofs.lemmas.List.Folds.{list_any-append}
use Rattle.std.specs.List.{list_all, list_any}
use Rattle.acl_names.proofs.SameAuth.{equal_from_text_eq, text_eq_itself}
use Rattle.acl_names.specs.Text.{is_lower, text_eq}
use Rattle.acl_names.specs.declared.auth.AuthId.{AuthId}
use Rattle.acl_model.specs.Words.{names_column}
use Rattle.acl_stmt.specs.Columns.{is_column_list}
use Rattle.acl_stmt.specs.Lists.{all_differ_by, is_some_list}
use Rattle.acl_stmt.specs.declared.columns.ColumnPriv.{ColumnPriv}
use Rattle.accepted_lists.proofs.Named.{level_below}
use Rattle.listed_privileges.specs.Columns.{column_list, column_list_if, column_lists}
use Rattle.priv_sets.specs.Levels.{has_level}
use Rattle.priv_sets.specs.declared.level.Level.TheVariants as level
use Rattle.show_grants.specs.Lines.{columns_held, table_privileges}
use Rattle.show_grants.specs.Listing.{Listing}
use Rattle.show_grants.specs.Rights.{Held}
use Rattle.shown_laws.proofs.Found.{any-filter}
use Rattle.shown_laws.proofs.Orderly.{IsListed, IsOrderly}
use Rattle.shown_laws.proofs.Tests.{never}

-- whether lists of columns name the column for the privilege
abbrev named_in : List ColumnPriv → ℕ → List ℕ → Bool
named_in columns p c = list_any (λ l. l.privilege == p && list_any (text_eq c) l.names) columns

one_named : (q : ℕ) (names : List (List ℕ)) (p : ℕ) (c : List ℕ) (test : Bool) (is : is_column_list q names ≡ test)
    → named_in (column_list_if q names test is) p c ≡ (q == p && (test && list_any (text_eq c) names))
one_named q names p c true is = or-false (q == p && list_any (text_eq c) names)
one_named q names p c false is = sym (never_both (q == p))
  where
    never_both : (x : Bool) → (x && false) ≡ false
    never_both true = refl
    never_both false = refl

-- the name among the columns of one privilege, where these make a list
abbrev listed_at : (ℕ → List (List ℕ)) → ℕ → List ℕ → Bool
listed_at names p c = is_column_list p (names p) && list_any (text_eq c) (names p)

lists_before : (left q p : ℕ) (names : ℕ → List (List ℕ)) (c : List ℕ) → p < q → named_in (column_lists q left names) p c ≡ false
lists_before zero q p names c before = refl
lists_before (suc left) q p names c before =
    list_any-append (λ l. l.privilege == p && list_any (text_eq c) l.names) (column_list q (names q)) (column_lists (suc q) left names)
    ∙ ap (λ t. t || named_in (column_lists (suc q) left names) p c) (one_named q (names q) p c (is_column_list q (names q)) refl ∙ ap (λ t. t && listed_at names q c) (ne_eqb q p (λ same. omega arith)))
    ∙ lists_before left (suc q) p names c (omega arith)

lists_named : (left q p : ℕ) (names : ℕ → List (List ℕ)) (c : List ℕ) → q ≤ p → p < q + left → named_in (column_lists q left names) p c ≡ listed_at names p c
lists_named zero q p names c from below = absurd (omega arith)
lists_named (suc left) q p names c from below =
    list_any-append (λ l. l.privilege == p && list_any (text_eq c) l.names) (column_list q (names q)) (column_lists (suc q) left names)
    ∙ ap (λ t. t || named_in (column_lists (suc q) left names) p c) (one_named q (names q) p c (is_column_list q (names q)) refl)
    ∙ elim (cases_eq q p) [
      | inl same ↦
          ap (λ t. (t && listed_at names q c) || named_in (column_lists (suc q) left names) p c) (eq-eqb q p same)
          ∙ ap (λ t. listed_at names q c || t) (lists_before left (suc q) p names c (omega arith)) ∙ or-false (listed_at names q c) ∙ ap (λ n. listed_at names n c) same
      | inr other ↦
          ap (λ t. (t && listed_at names q c) || named_in (column_lists (suc q) left names) p c) (ne_eqb q p other)
          ∙ lists_named left (suc q) p names c (omega arith) (omega arith)
    ]

-- ---- the columns that are held make a list

pub all-filter : {X : Type 0} (test passes : X → Bool) → ((x : X) → passes x ≡ true → test x ≡ true) → (xs : List X) → list_all test (filter passes xs) ≡ true
all-filter test passes each [] = refl
all-filter test passes each (x ∷ xs) = by (passes x) refl (all-filter test passes each xs)
  where
    by : (t : Bool) → passes x ≡ t → list_all test (filter passes xs) ≡ true → list_all test (cond t (x ∷ filter passes xs) (filter passes xs)) ≡ true
    by true is rest = and_from (test x) (list_all test (filter passes xs)) (each x is) rest
    by false is rest = rest

absent-filter : (passes : List ℕ → Bool) (x : List ℕ) (xs : List (List ℕ)) → list_any (text_eq x) xs ≡ false → list_any (text_eq x) (filter passes xs) ≡ false
absent-filter passes x [] absent = refl
absent-filter passes x (y ∷ xs) absent =
    let parts = or_parts (text_eq x y) (list_any (text_eq x) xs) absent in
    by (passes y) parts.0 (absent-filter passes x xs parts.1)
  where
    by : (t : Bool) → text_eq x y ≡ false → list_any (text_eq x) (filter passes xs) ≡ false → list_any (text_eq x) (cond t (y ∷ filter passes xs) (filter passes xs)) ≡ false
    by true other rest = rw other rest
    by false other rest = rest

differ-filter : (passes : List ℕ → Bool) (xs : List (List ℕ)) → all_differ_by text_eq xs ≡ true → all_differ_by text_eq (filter passes xs) ≡ true
differ-filter passes [] differ = refl
differ-filter passes (x ∷ xs) differ =
    let parts = and_parts (not (list_any (text_eq x) xs)) (all_differ_by text_eq xs) differ in
    by (passes x) (absent-filter passes x xs (not-true (list_any (text_eq x) xs) parts.0)) (differ-filter passes xs parts.1)
  where
    by : (t : Bool) → list_any (text_eq x) (filter passes xs) ≡ false → all_differ_by text_eq (filter passes xs) ≡ true
        → all_differ_by text_eq (cond t (x ∷ filter passes xs) (filter passes xs)) ≡ true
    by true absent rest = and_from (not (list_any (text_eq x) (filter passes xs))) (all_differ_by text_eq (filter passes xs)) (not_from_false (list_any (text_eq x) (filter passes xs)) absent) rest
    by false absent rest = rest

some_from_member : (c : List ℕ) (names : List (List ℕ)) → list_any (text_eq c) names ≡ true → is_some_list names ≡ true
some_from_member c [] member = never member
some_from_member c (n ∷ names) member = refl

module _ (held : Held) (listing : Listing) (a : AuthId) (orderly : IsOrderly held a) (listed : IsListed held listing) (s t : List ℕ) where
  -- the columns of the table, where one is held
  is_list_of : (p : ℕ) (c : List ℕ) → held.on_column s t c p ≡ true → list_any (text_eq c) (columns_held held listing (s, t) p) ≡ true
      → is_column_list p (columns_held held listing (s, t) p) ≡ true
  unfolding is_column_list
  is_list_of p c holds member =
      let names : List (List ℕ) = columns_held held listing (s, t) p in
      and_from (has_level level.Column p && is_some_list names && nat_lt (length names) (2 ^ 32) && list_all is_lower names) (all_differ_by text_eq names)
      (and_from (has_level level.Column p && is_some_list names && nat_lt (length names) (2 ^ 32)) (list_all is_lower names)
      (and_from (has_level level.Column p && is_some_list names) (nat_lt (length names) (2 ^ 32))
      (and_from (has_level level.Column p) (is_some_list names) (orderly.column_level s t c p holds) (some_from_member c names member))
      (lt-ltb (length names) (2 ^ 32) (listed.few s t p)))
      (all-filter is_lower (λ x. held.on_column s t x p) (λ x passes. orderly.column_lower s t x p passes) listing.columns))
      (differ-filter (λ x. held.on_column s t x p) listing.columns listed.columns_differ)

  -- the column is listed exactly where it is held
  member_held : (p : ℕ) (c : List ℕ) → list_any (text_eq c) (columns_held held listing (s, t) p) ≡ held.on_column s t c p
  member_held p c = any-filter text_eq equal_from_text_eq text_eq_itself (λ x. held.on_column s t x p) c listing.columns ∙ by (held.on_column s t c p) refl
    where
      by : (u : Bool) → held.on_column s t c p ≡ u → (u && list_any (text_eq c) listing.columns) ≡ u
      by true holds = listed.column s t c p holds
      by false holds = refl

  -- some column is listed where one is held
  pub some_columns : (p : ℕ) (c : List ℕ) → held.on_column s t c p ≡ true → is_some_list (columns_held held listing (s, t) p) ≡ true
  some_columns p c holds = some_from_member c (columns_held held listing (s, t) p) (member_held p c ∙ holds)

  listed_held : (p : ℕ) (c : List ℕ) → listed_at (columns_held held listing (s, t)) p c ≡ held.on_column s t c p
  listed_held p c = by (held.on_column s t c p) refl
    where
      by : (u : Bool) → held.on_column s t c p ≡ u → (is_column_list p (columns_held held listing (s, t) p) && list_any (text_eq c) (columns_held held listing (s, t) p)) ≡ u
      by true holds =
          let member : list_any (text_eq c) (columns_held held listing (s, t) p) ≡ true = member_held p c ∙ holds in
          and_from (is_column_list p (columns_held held listing (s, t) p)) (list_any (text_eq c) (columns_held held listing (s, t) p)) (is_list_of p c holds member) member
      by false fails = ap (λ x. is_column_list p (columns_held held listing (s, t) p) && x) (member_held p c ∙ fails) ∙ never_both (is_column_list p (columns_held held listing (s, t) p))
        where
          never_both : (x : Bool) → (x && false) ≡ false
          never_both true = refl
          never_both false = refl

  -- what the line of a table names of its columns
  pub columns_named : (p : ℕ) (c : List ℕ) → names_column (table_privileges held listing (s, t)) p c ≡ held.on_column s t c p
  columns_named p c =
      elim (cases_lt p 31) [
        | inl below ↦ lists_named 31 0 p (columns_held held listing (s, t)) c (omega arith) (omega arith) ∙ listed_held p c
        | inr above ↦ lists_above 31 0 p (columns_held held listing (s, t)) c (omega arith) ∙ sym (not_held (held.on_column s t c p) refl above)
      ]
    where
      lists_above : (left q n : ℕ) (names : ℕ → List (List ℕ)) (d : List ℕ) → q + left ≤ n → named_in (column_lists q left names) n d ≡ false
      lists_above zero q n names d above = refl
      lists_above (suc left) q n names d above =
          list_any-append (λ l. l.privilege == n && list_any (text_eq d) l.names) (column_list q (names q)) (column_lists (suc q) left names)
          ∙ ap (λ x. x || named_in (column_lists (suc q) left names) n d) (one_named q (names q) n d (is_column_list q (names q)) refl ∙ ap (λ x. x && listed_at names q d) (ne_eqb q n (λ same. omega arith)))
          ∙ lists_above left (suc q) n names d (omega arith)

      not_held : (u : Bool) → held.on_column s t c p ≡ u → 31 ≤ p → u ≡ false
      not_held true holds above = let below : p < 31 = level_below level.Column p (orderly.column_level s t c p holds) in absurd (omega arith)
      not_held false fails above = refl
