-- A list without repeats is not longer than one that has all its items.
use Rattle.std.proofs.Common.{◌≡◌, ◌∙◌, ap, sym, refl, suc, ◌≤◌, Bool, true, false, cond, not, ◌||◌, List, [], ◌∷◌, length, arith}
use Rattle.std.proofs.lemmas.Bool.{and_from, and_parts, not-true, not_from_false, or_left, or_right}
use Rattle.std.specs.List.{list_any}
use Rattle.acl_stmt.specs.Lists.{all_differ_by}
use Rattle.accepted_lists.proofs.Named.{never}

-- the list without the first item that is the same
without : {X : Type 0} → (X → X → Bool) → X → List X → List X
without same x [] = []
without same x (y ∷ ys) = cond (same x y) ys (y ∷ without same x ys)

-- each item once
pub once : {X : Type 0} → (X → X → Bool) → List X → List X
once same [] = []
once same (x ∷ xs) = cond (list_any (same x) (once same xs)) (once same xs) (x ∷ once same xs)

module _ {X : Type 0} (same : X → X → Bool) (equal : (a b : X) → same a b ≡ true → a ≡ b) (itself : (a : X) → same a a ≡ true) where
  length-without : (x : X) (ys : List X) → list_any (same x) ys ≡ true → suc (length (without same x ys)) ≡ length ys
  unfolding without
  length-without x [] there = never there
  length-without x (y ∷ ys) there = by (same x y) there (length-without x ys)
    where
      by : (t : Bool) → (t || list_any (same x) ys) ≡ true → (list_any (same x) ys ≡ true → suc (length (without same x ys)) ≡ length ys)
          → suc (length (cond t ys (y ∷ without same x ys))) ≡ suc (length ys)
      by true listed rest = refl
      by false listed rest = ap suc (rest listed)

  still_there : (x z : X) (ys : List X) → same z x ≡ false → list_any (same z) ys ≡ true → list_any (same z) (without same x ys) ≡ true
  unfolding without
  still_there x z [] other there = never there
  still_there x z (y ∷ ys) other there = by (same x y) refl there (still_there x z ys other)
    where
      past : (u : Bool) → (u || list_any (same z) ys) ≡ true → (list_any (same z) ys ≡ true → list_any (same z) (without same x ys) ≡ true) → (u || list_any (same z) (without same x ys)) ≡ true
      past true listed rest = refl
      past false listed rest = rest listed

      by : (t : Bool) → same x y ≡ t → (same z y || list_any (same z) ys) ≡ true → (list_any (same z) ys ≡ true → list_any (same z) (without same x ys) ≡ true)
          → list_any (same z) (cond t ys (y ∷ without same x ys)) ≡ true
      by true is listed rest = sym (ap (λ t. t || list_any (same z) ys) (ap (same z) (sym (equal x y is)) ∙ other)) ∙ listed
      by false is listed rest = past (same z y) listed rest

  pub not_longer : (xs ys : List X) → all_differ_by same xs ≡ true → ((z : X) → list_any (same z) xs ≡ true → list_any (same z) ys ≡ true) → length xs ≤ length ys
  not_longer [] ys differ all = omega arith
  not_longer (x ∷ xs) ys differ all =
      let parts = and_parts (not (list_any (same x) xs)) (all_differ_by same xs) differ in
      let here : list_any (same x) ys ≡ true = all x (or_left (same x x) (list_any (same x) xs) (itself x)) in
      let shorter : length xs ≤ length (without same x ys) =
      not_longer xs (without same x ys) parts.1
      (λ z listed. still_there x z ys (apart z listed (not-true (list_any (same x) xs) parts.0) (same z x) refl) (all z (or_right (same z x) (list_any (same z) xs) listed))) in
      let by_one : suc (length (without same x ys)) ≡ length ys = length-without x ys here in
      omega arith
    where
      apart : (z : X) → list_any (same z) xs ≡ true → list_any (same x) xs ≡ false → (t : Bool) → same z x ≡ t → t ≡ false
      apart z listed gone false is = refl
      apart z listed gone true is = never (sym gone ∙ ap (λ (y : X). list_any (same y) xs) (sym (equal z x is)) ∙ listed)

  pub once_differ : (xs : List X) → all_differ_by same (once same xs) ≡ true
  unfolding once
  once_differ [] = refl
  once_differ (x ∷ xs) = by (list_any (same x) (once same xs)) refl (once_differ xs)
    where
      by : (t : Bool) → list_any (same x) (once same xs) ≡ t → all_differ_by same (once same xs) ≡ true → all_differ_by same (cond t (once same xs) (x ∷ once same xs)) ≡ true
      by true listed rest = rest
      by false new rest = and_from (not (list_any (same x) (once same xs))) (all_differ_by same (once same xs)) (not_from_false (list_any (same x) (once same xs)) new) rest

  pub once_has : (k : X) (xs : List X) → list_any (same k) (once same xs) ≡ list_any (same k) xs
  unfolding once
  once_has k [] = refl
  once_has k (x ∷ xs) = by (list_any (same x) (once same xs)) refl (once_has k xs)
    where
      there : (u : Bool) → same k x ≡ u → list_any (same x) (once same xs) ≡ true → list_any (same k) (once same xs) ≡ (u || list_any (same k) (once same xs))
      there true is listed = ap (λ (y : X). list_any (same y) (once same xs)) (equal k x is) ∙ listed
      there false is listed = refl

      by : (t : Bool) → list_any (same x) (once same xs) ≡ t → list_any (same k) (once same xs) ≡ list_any (same k) xs
          → list_any (same k) (cond t (once same xs) (x ∷ once same xs)) ≡ (same k x || list_any (same k) xs)
      by true listed rest = there (same k x) refl listed ∙ ap (λ t. same k x || t) rest
      by false new rest = ap (λ t. same k x || t) rest
