-- Texts each once: what a set that keeps the order of insertion makes of them, and what they keep.
use Rattle.std.proofs.Common.{◌≡◌, ◌∙◌, refl, sym, ap, ℕ, ◌≤◌, Bool, true, false, cond, not, ◌||◌, ◌&&◌, if◌then◌else◌, List, [], ◌∷◌, ◌++◌, length, append-nil, append_assoc, arith, filter}
use Rattle.std.proofs.lemmas.Bool.{and_from, and_parts, not_from_false, not-true, or_from, or_parts}
use Rattle.std.proofs.lemmas.List.Elements.{filter_agree}
use Rattle.std.proofs.lemmas.List.Folds.{list_any-append}
use Rattle.std.specs.List.{list_all, list_any}
use Rattle.acl_stmt.specs.Lists.{all_differ_by}
use Rattle.indexmap.specs.IndexSet.{insert_all}
use Rattle.acl_names.proofs.SameAuth.{equal_from_text_eq}
use Rattle.acl_names.specs.Text.{text_eq}
use Rattle.priv_items.specs.Meaning.{each_once}

pub text_eq-swap : (x y : List ℕ) → text_eq x y ≡ text_eq y x
text_eq-swap x y = by (text_eq x y) (text_eq y x) refl refl
  where
    by : (a b : Bool) → text_eq x y ≡ a → text_eq y x ≡ b → text_eq x y ≡ text_eq y x
    by true b p q = let e = equal_from_text_eq x y p in λ i. text_eq (e i) (sym e i)
    by false true p q = let e = equal_from_text_eq y x q in λ i. text_eq (sym e i) (e i)
    by false false p q = p ∙ sym q

-- the tests of a filter: a text is none of these
abbrev is_none_of : List (List ℕ) → List ℕ → Bool
is_none_of texts text = not (list_any (text_eq text) texts)

abbrev is_other : List ℕ → List ℕ → Bool
is_other text other = not (text_eq other text)

filter-filter : {X : Type 0} (p q : X → Bool) (xs : List X) → filter p (filter q xs) ≡ filter (λ x. q x && p x) xs
filter-filter p q [] = refl
filter-filter {X} p q (x ∷ xs) =
    elim (q x) as (λ t. filter p (cond t (x ∷ filter q xs) (filter q xs)) ≡ cond (t && p x) (x ∷ filter (λ x. q x && p x) xs) (filter (λ x. q x && p x) xs)) [
      | true ↦ ap (λ (rest : List X). cond (p x) (x ∷ rest) rest) (filter-filter p q xs)
      | false ↦ filter-filter p q xs
    ]

filter-true : {X : Type 0} (xs : List X) → filter (λ x. true) xs ≡ xs
filter-true [] = refl
filter-true (x ∷ xs) = ap (λ rest. x ∷ rest) (filter-true xs)

-- a text that is among the keys is passed over with them
known_test : (keys : List (List ℕ)) (x y : List ℕ) → list_any (text_eq x) keys ≡ true → (is_other x y && is_none_of keys y) ≡ is_none_of keys y
known_test keys x y there = by (text_eq y x) refl
  where
    by : (b : Bool) → text_eq y x ≡ b → (not b && is_none_of keys y) ≡ is_none_of keys y
    by false p = refl
    by true p = sym (ap not (ap (λ text. list_any (text_eq text) keys) (equal_from_text_eq y x p) ∙ there))

either_test : (a b : Bool) → not (a || (b || false)) ≡ (not b && not a)
either_test true true = refl
either_test true false = refl
either_test false true = refl
either_test false false = refl

new_test : (keys : List (List ℕ)) (x y : List ℕ) → is_none_of (keys ++ x ∷ []) y ≡ (is_other x y && is_none_of keys y)
new_test keys x y =
    ap not (list_any-append (text_eq y) keys (x ∷ [])) ∙ either_test (list_any (text_eq y) keys) (text_eq y x)

inserted : (keys texts : List (List ℕ)) → insert_all text_eq keys texts ≡ keys ++ filter (is_none_of keys) (each_once texts)
inserted keys [] = sym (append-nil keys)
inserted keys (x ∷ xs) = by (λ more. inserted more xs) (list_any (text_eq x) keys) refl
  where
    by : ((more : List (List ℕ)) → insert_all text_eq more xs ≡ more ++ filter (is_none_of more) (each_once xs)) → (b : Bool) → list_any (text_eq x) keys ≡ b
        → insert_all text_eq (if b then keys else keys ++ x ∷ []) xs
        ≡ keys ++ cond (not b) (x ∷ filter (is_none_of keys) (filter (is_other x) (each_once xs))) (filter (is_none_of keys) (filter (is_other x) (each_once xs)))
    by rest true there =
        rest keys ∙ ap (λ rest. keys ++ rest) (sym (filter-filter (is_none_of keys) (is_other x) (each_once xs)
        ∙ filter_agree (λ y. is_other x y && is_none_of keys y) (is_none_of keys) (λ y. known_test keys x y there) (each_once xs)))
    by rest false new =
        rest (keys ++ x ∷ []) ∙ append_assoc keys (x ∷ []) (filter (is_none_of (keys ++ x ∷ [])) (each_once xs))
        ∙ ap (λ rest. keys ++ x ∷ rest) (filter_agree (is_none_of (keys ++ x ∷ [])) (λ y. is_other x y && is_none_of keys y) (λ y. new_test keys x y) (each_once xs)
        ∙ sym (filter-filter (is_none_of keys) (is_other x) (each_once xs)))

-- an empty set that the texts are put into, one after the other
pub inserted_once : (texts : List (List ℕ)) → insert_all text_eq [] texts ≡ each_once texts
inserted_once texts = inserted [] texts ∙ filter-true (each_once texts)

any_none-filter : {X : Type 0} (test p : X → Bool) (xs : List X) → list_any test xs ≡ false → list_any test (filter p xs) ≡ false
any_none-filter test p [] none = refl
any_none-filter test p (x ∷ xs) none =
    let parts = or_parts (test x) (list_any test xs) none in
    elim (p x) as (λ t. list_any test (cond t (x ∷ filter p xs) (filter p xs)) ≡ false) [
      | true ↦ or_from (test x) (list_any test (filter p xs)) parts.0 (any_none-filter test p xs parts.1)
      | false ↦ any_none-filter test p xs parts.1
    ]

pub list_all-filter : {X : Type 0} (test p : X → Bool) (xs : List X) → list_all test xs ≡ true → list_all test (filter p xs) ≡ true
list_all-filter test p [] every = refl
list_all-filter test p (x ∷ xs) every =
    let parts = and_parts (test x) (list_all test xs) every in
    elim (p x) as (λ t. list_all test (cond t (x ∷ filter p xs) (filter p xs)) ≡ true) [
      | true ↦ and_from (test x) (list_all test (filter p xs)) parts.0 (list_all-filter test p xs parts.1)
      | false ↦ list_all-filter test p xs parts.1
    ]

all_differ-filter : (p : List ℕ → Bool) (texts : List (List ℕ)) → all_differ_by text_eq texts ≡ true → all_differ_by text_eq (filter p texts) ≡ true
all_differ-filter p [] differ = refl
all_differ-filter p (x ∷ xs) differ =
    let parts = and_parts (not (list_any (text_eq x) xs)) (all_differ_by text_eq xs) differ in
    let first = not_from_false (list_any (text_eq x) (filter p xs)) (any_none-filter (text_eq x) p xs (not-true (list_any (text_eq x) xs) parts.0)) in
    let rest = all_differ-filter p xs parts.1 in
    elim (p x) as (λ t. all_differ_by text_eq (cond t (x ∷ filter p xs) (filter p xs)) ≡ true) [
      | true ↦ and_from (not (list_any (text_eq x) (filter p xs))) (all_differ_by text_eq (filter p xs)) first rest
      | false ↦ rest
    ]

none_after : (x : List ℕ) (texts : List (List ℕ)) → list_any (text_eq x) (filter (is_other x) texts) ≡ false
none_after x [] = refl
none_after x (y ∷ ys) = by (none_after x ys) (text_eq y x) refl
  where
    by : list_any (text_eq x) (filter (is_other x) ys) ≡ false → (b : Bool) → text_eq y x ≡ b → list_any (text_eq x) (cond (not b) (y ∷ filter (is_other x) ys) (filter (is_other x) ys)) ≡ false
    by rest true p = rest
    by rest false p = or_from (text_eq x y) (list_any (text_eq x) (filter (is_other x) ys)) (text_eq-swap x y ∙ p) rest

pub all_differ-each_once : (texts : List (List ℕ)) → all_differ_by text_eq (each_once texts) ≡ true
all_differ-each_once [] = refl
all_differ-each_once (x ∷ xs) =
    and_from (not (list_any (text_eq x) (filter (is_other x) (each_once xs)))) (all_differ_by text_eq (filter (is_other x) (each_once xs)))
    (not_from_false (list_any (text_eq x) (filter (is_other x) (each_once xs))) (none_after x (each_once xs)))
    (all_differ-filter (is_other x) (each_once xs) (all_differ-each_once xs))

pub list_all-each_once : (test : List ℕ → Bool) (texts : List (List ℕ)) → list_all test texts ≡ true → list_all test (each_once texts) ≡ true
list_all-each_once test [] every = refl
list_all-each_once test (x ∷ xs) every =
    let parts = and_parts (test x) (list_all test xs) every in
    and_from (test x) (list_all test (filter (is_other x) (each_once xs))) parts.0
    (list_all-filter test (is_other x) (each_once xs) (list_all-each_once test xs parts.1))

length-filter_le : {X : Type 0} (p : X → Bool) (xs : List X) → length (filter p xs) ≤ length xs
length-filter_le p [] = omega arith
length-filter_le p (x ∷ xs) =
    let rest = length-filter_le p xs in
    elim (p x) as (λ t. length (cond t (x ∷ filter p xs) (filter p xs)) ≤ length (x ∷ xs)) [ true ↦ omega arith | false ↦ omega arith ]

pub length-each_once : (texts : List (List ℕ)) → length (each_once texts) ≤ length texts
length-each_once [] = omega arith
length-each_once (x ∷ xs) =
    let rest = length-each_once xs in
    let kept = length-filter_le (is_other x) (each_once xs) in
    omega arith

filter_none : (x : List ℕ) (texts : List (List ℕ)) → list_any (text_eq x) texts ≡ false → filter (is_other x) texts ≡ texts
filter_none x [] none = refl
filter_none x (y ∷ ys) none =
    let parts = or_parts (text_eq x y) (list_any (text_eq x) ys) none in
    (λ i. cond (not ((text_eq-swap y x ∙ parts.0) i)) (y ∷ filter (is_other x) ys) (filter (is_other x) ys))
    ∙ ap (λ rest. y ∷ rest) (filter_none x ys parts.1)

-- texts that differ stay
pub each_once-differ : (texts : List (List ℕ)) → all_differ_by text_eq texts ≡ true → each_once texts ≡ texts
each_once-differ [] differ = refl
each_once-differ (x ∷ xs) differ =
    let parts = and_parts (not (list_any (text_eq x) xs)) (all_differ_by text_eq xs) differ in
    ap (λ rest. x ∷ filter (is_other x) rest) (each_once-differ xs parts.1)
    ∙ ap (λ rest. x ∷ rest) (filter_none x xs (not-true (list_any (text_eq x) xs) parts.0))
