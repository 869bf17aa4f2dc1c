-- How many items a set has.
use Rattle.std.proofs.Common.{◌≡◌, ◌∙◌, ap, sym, ℕ, suc, ◌<◌, ◌≤◌, Bool, true, false, cond, not, ◌||◌, List, [], ◌∷◌, length, refl, nat_lt, MatchBool, arith}
use Rattle.std.proofs.lemmas.Bool.{and_parts, ltb-false, ltb-true, not-true, or_left, or_right}
use Rattle.std.specs.List.{list_any}
use Rattle.acl_model.specs.Counts.{HasMoreThan, ListsEachOnce}
use Rattle.acl_stmt.specs.Lists.{all_differ_by}

module _ {X : Type 0} (same : X → X → Bool) (equal : (a b : X) → same a b ≡ true → a ≡ b) (itself : (a : X) → same a a ≡ true) where
  without : X → List X → List X
  without x [] = []
  without x (y ∷ ys) = cond (same x y) ys (y ∷ without x ys)

  length-without : (x : X) (ys : List X) → list_any (same x) ys ≡ true → suc (length (without x ys)) ≡ length ys
  unfolding without
  length-without x [] there = cc
  length-without x (y ∷ ys) there = at (same x y) refl (length-without x ys)
    where
      at : (t : Bool) → same x y ≡ t → (list_any (same x) ys ≡ true → suc (length (without x ys)) ≡ length ys) → suc (length (cond t ys (y ∷ without x ys))) ≡ suc (length ys)
      at true is rest = refl
      at false is rest =
          let later : list_any (same x) ys ≡ true = rw is at there in
          ap suc (rest later)

  any-without : (x z : X) (ys : List X) → same z x ≡ false → list_any (same z) ys ≡ true → list_any (same z) (without x ys) ≡ true
  unfolding without
  any-without x z [] other there = cc
  any-without x z (y ∷ ys) other there = at (same x y) refl (any-without x z ys other)
    where
      at : (t : Bool) → same x y ≡ t → (list_any (same z) ys ≡ true → list_any (same z) (without x ys) ≡ true) → list_any (same z) (cond t ys (y ∷ without x ys)) ≡ true
      at true is rest =
          let first : same z y ≡ false = rw (← equal x y is) other in
          rw first at there
      at false is rest = by_first (same z y) there rest
        where
          by_first : (u : Bool) → (u || list_any (same z) ys) ≡ true → (list_any (same z) ys ≡ true → list_any (same z) (without x ys) ≡ true)
              → (u || list_any (same z) (without x ys)) ≡ true
          by_first true any later = refl
          by_first false any later = later any

  apart : (x z : X) (xs : List X) → list_any (same x) xs ≡ false → list_any (same z) xs ≡ true → (t : Bool) → same z x ≡ t → t ≡ false
  apart x z xs gone any false is = refl
  apart x z xs gone any true is =
      let here : list_any (same x) xs ≡ true = ap (λ y. list_any (same y) xs) (sym (equal z x is)) ∙ any in
      cc

  -- a list without repeats is not longer than one that has all its items
  pub not_longer : (xs ys : List X) → all_differ_by same xs ≡ true → ((z : X) → list_any (same z) xs ≡ true → list_any (same z) ys ≡ true) → length xs ≤ length ys
  not_longer [] ys once all = omega arith
  not_longer (x ∷ xs) ys once all =
      let parts = and_parts (not (list_any (same x) xs)) (all_differ_by same xs) once in
      let gone = not-true (list_any (same x) xs) parts.0 in
      let here : list_any (same x) ys ≡ true = all x (or_left (same x x) (list_any (same x) xs) (itself x)) in
      let shorter : length xs ≤ length (without x ys) =
      not_longer xs (without x ys) parts.1
      (λ z any. any-without x z ys (apart x z xs gone any (same z x) refl) (all z (or_right (same z x) (list_any (same z) xs) any))) in
      let shorter_by_one : suc (length (without x ys)) ≡ length ys = length-without x ys here in
      omega arith

  -- whether more than a limit are in a set that is listed
  pub is_over_limit : (P : X → Type 0) (items : List X) → ListsEachOnce same P items → (limit : ℕ) (t : Bool) → nat_lt limit (length items) ≡ t
      → MatchBool t (HasMoreThan same P limit) (HasMoreThan same P limit → ⊥)
  is_over_limit P items all limit true below = record { items = items; all = all; more = ltb-true limit (length items) below }
  is_over_limit P items all limit false above = λ more.
      let least : length more.items ≤ length items =
      not_longer more.items items more.all.once (λ z any. (all.just_these z).1 ((more.all.just_these z).0 any)) in
      let most : length items ≤ limit = ltb-false limit (length items) above in
      let over : limit < length more.items = more.more in
      absurd (omega arith)
