-- How many numbers have a name.
use Rattle.std.proofs.Common.{◌≡◌, ◌≢◌, ◌∙◌, refl, sym, ap, ℕ, zero, suc, Bool, cond, ◌<◌, ◌≤◌, ◌+◌, List, [], ◌∷◌, length, get_or, slice_get, nat_lt, is_some, count_by, Option, inl, inr, arith}
use Rattle.std.proofs.lemmas.Bool.{cases_lt, lt-ltb, le-ltb}
use Rattle.std.proofs.lemmas.List.Sums.{sum_by-cons}
use Rattle.numbered_names.specs.Tables.{AreInverse, names_by_number}

abbrev one_if : Bool → ℕ
one_if b = cond b 1 0

count_cons : {X : Type 0} (p : X → Bool) (x : X) (xs : List X) → count_by p (x ∷ xs) ≡ cond (p x) 1 0 + count_by p xs
count_cons p x xs = sum_by-cons (λ y. cond (p y) 1 0) x xs

same_test : (x m : ℕ) → x ≢ m → nat_lt x (m + 1) ≡ nat_lt x m
same_test x m apart =
    elim (cases_lt x m) [
      | inl less ↦ lt-ltb x (m + 1) (omega arith) ∙ sym (lt-ltb x m less)
      | inr not_less ↦ elim (cases_lt m x) [
        | inl more ↦ le-ltb x (m + 1) (omega arith) ∙ sym (le-ltb x m not_less)
        | inr not_more ↦ absurd (apart (omega arith))
      ]
    ]

none_more : (xs : List ℕ) (m : ℕ) → ((j : ℕ) → j < length xs → get_or xs j 0 ≢ m) →
    count_by (λ x. nat_lt x (m + 1)) xs ≡ count_by (λ x. nat_lt x m) xs
none_more [] m none = refl
none_more (x ∷ xs) m none =
    count_cons (λ x. nat_lt x (m + 1)) x xs
    ∙ ap (λ (b : Bool). cond b 1 0 + count_by (λ x. nat_lt x (m + 1)) xs) (same_test x m (none 0 (omega arith)))
    ∙ ap (λ n. cond (nat_lt x m) 1 0 + n) (none_more xs m (λ j within. none (suc j) (omega arith)))
    ∙ sym (count_cons (λ x. nat_lt x m) x xs)

-- where one entry is at a bound, one more is below the next
one_more : (xs : List ℕ) (m i : ℕ) → i < length xs → get_or xs i 0 ≡ m → ((j : ℕ) → j < length xs → get_or xs j 0 ≡ m → j ≡ i) →
    count_by (λ x. nat_lt x (m + 1)) xs ≡ count_by (λ x. nat_lt x m) xs + 1
one_more [] m i within is once = absurd (omega arith)
one_more (x ∷ xs) m zero within is once =
    let rest = none_more xs m (λ j inside there. absurd (omega (arith, once (suc j) (omega arith) there))) in
    let now : one_if (nat_lt x (m + 1)) ≡ 1 = ap one_if (lt-ltb x (m + 1) (omega arith)) in
    let before : one_if (nat_lt x m) ≡ 0 = ap one_if (le-ltb x m (omega arith)) in
    omega (arith, rest, now, before, count_cons (λ x. nat_lt x (m + 1)) x xs, count_cons (λ x. nat_lt x m) x xs)
one_more (x ∷ xs) m (suc i) within is once =
    let rest = one_more xs m i (omega arith) is (λ j inside there. omega (arith, once (suc j) (omega arith) there)) in
    let same : one_if (nat_lt x (m + 1)) ≡ one_if (nat_lt x m) =
    ap one_if (same_test x m (λ e. absurd (omega (arith, once 0 (omega arith) e)))) in
    omega (arith, rest, same, count_cons (λ x. nat_lt x (m + 1)) x xs, count_cons (λ x. nat_lt x m) x xs)

none_below : (xs : List ℕ) → count_by (λ x. nat_lt x 0) xs ≡ 0
none_below [] = refl
none_below (x ∷ xs) =
    let rest = none_below xs in
    let out : one_if (nat_lt x 0) ≡ 0 = ap one_if (le-ltb x 0 (omega arith)) in
    omega (arith, rest, out, count_cons (λ x. nat_lt x 0) x xs)

-- so many numbers have one of the first places
places_below : (numbers places : List ℕ) → AreInverse numbers places → (m : ℕ) → m ≤ length places → count_by (λ x. nat_lt x m) places ≡ m
places_below numbers places inverse zero within = none_below places
places_below numbers places inverse (suc m) within =
    let inside : m < length places = omega arith in
    ap (λ n. count_by (λ x. nat_lt x n) places) (omega arith)
    ∙ one_more places m (get_or numbers m 0) (inverse.number_within m inside) (inverse.place_of_number m inside)
    (λ j there is. sym (inverse.number_of_place j there) ∙ ap (λ p. get_or numbers p 0) is)
    ∙ ap (λ n. n + 1) (places_below numbers places inverse m (omega arith))
    ∙ omega arith

module _ {K : Type 0} where
  is_some-within : (names : List K) (place : ℕ) → is_some (slice_get names place) ≡ nat_lt place (length names)
  is_some-within [] place = sym (le-ltb place 0 (omega arith))
  is_some-within (x ∷ xs) zero = sym (lt-ltb 0 (length (x ∷ xs)) (omega arith))
  is_some-within (x ∷ xs) (suc place) = is_some-within xs place ∙ shifted
    where
      shifted : nat_lt place (length xs) ≡ nat_lt (suc place) (length (x ∷ xs))
      shifted =
          elim (cases_lt place (length xs)) [
            | inl less ↦ lt-ltb place (length xs) less ∙ sym (lt-ltb (suc place) (length (x ∷ xs)) (omega arith))
            | inr not_less ↦ le-ltb place (length xs) not_less ∙ sym (le-ltb (suc place) (length (x ∷ xs)) (omega arith))
          ]

  count_places : (names : List K) (places : List ℕ) → count_by is_some (names_by_number names places) ≡ count_by (λ x. nat_lt x (length names)) places
  count_places names [] = refl
  count_places names (x ∷ xs) =
      count_cons is_some (slice_get names x) (names_by_number names xs)
      ∙ ap (λ (b : Bool). cond b 1 0 + count_by is_some (names_by_number names xs)) (is_some-within names x)
      ∙ ap (λ n. cond (nat_lt x (length names)) 1 0 + n) (count_places names xs)
      ∙ sym (count_cons (λ x. nat_lt x (length names)) x xs)

  -- each name that is kept stands at one number
  pub count_names : (names : List K) (numbers places : List ℕ) (given : List (Option K)) → names_by_number names places ≡ given → AreInverse numbers places →
      length names ≤ length places → length names ≡ count_by is_some given
  count_names names numbers places given seen inverse taken =
      sym (places_below numbers places inverse (length names) taken) ∙ sym (count_places names places)
      ∙ ap (λ (ns : List (Option K)). count_by is_some ns) seen
