-- The first item that passes, changed in its place.
use Rattle.std.proofs.Common.{◌≡◌, ap, ℕ, zero, suc, ◌<◌, ◌+◌, Bool, true, false, cond, nat_lt, List, [], ◌∷◌, Some, None, length, get_or, set, refl, arith}
use Rattle.std.proofs.lemmas.Bool.{le-ltb, ltb-false}
use Rattle.std.proofs.lemmas.List.Quantifiers.{position-Some}
use Rattle.std.specs.List.{position, position_or_len}
use Rattle.acl_rows.specs.Renaming.{change_first}

module _ {X : Type 0} (p : X → Bool) (change : X → X) where
  change_at : (xs : List X) (i : ℕ) (x : X) → i < length xs → x ≡ get_or xs i x → p x ≡ true → ((k : ℕ) → k < i → p (get_or xs k x) ≡ false)
      → set xs i (change x) ≡ change_first p change xs
  change_at [] i x within is passes before = absurd (omega arith)
  change_at (y ∷ ys) zero x within is passes before =
      let first : p y ≡ true = rw is at passes in
      rw (first, is) refl
  change_at (y ∷ ys) (suc i) x within is passes before =
      let first : p y ≡ false = before 0 (omega arith) in
      rw first (ap (λ rest. y ∷ rest) (change_at ys i x (omega arith) is passes (λ k below. before (suc k) (omega arith))))

  -- the item at the place that is found
  pub change_found : (xs : List X) (i : ℕ) (x : X) → position p xs ≡ Some i → x ≡ get_or xs i x → set xs i (change x) ≡ change_first p change xs
  change_found xs i x found is =
      let parts = position-Some p xs i x found in
      let passes : p x ≡ true = rw (← is) at parts.1 in
      change_at xs i x parts.0 is passes parts.2

  unchanged_step : (x : X) (xs : List X) (t : Bool) → p x ≡ t → nat_lt (position_or_len p (x ∷ xs)) (length (x ∷ xs)) ≡ false
      → (nat_lt (position_or_len p xs) (length xs) ≡ false → xs ≡ change_first p change xs) → (x ∷ xs) ≡ change_first p change (x ∷ xs)
  unchanged_step x xs true passes none rest =
      let here : nat_lt 0 (length (x ∷ xs)) ≡ false = rw passes at none in
      absurd (omega (arith, ltb-false 0 (length (x ∷ xs)) here))
  unchanged_step x xs false fails none rest =
      let below : nat_lt (1 + position_or_len p xs) (suc (length xs)) ≡ false = rw fails at none in
      let later : nat_lt (position_or_len p xs) (length xs) ≡ false = le-ltb (position_or_len p xs) (length xs) (omega (arith, ltb-false (1 + position_or_len p xs) (suc (length xs)) below)) in
      rw fails (ap (λ r. x ∷ r) (rest later))

  unchanged : (xs : List X) → nat_lt (position_or_len p xs) (length xs) ≡ false → xs ≡ change_first p change xs
  unchanged [] none = refl
  unchanged (x ∷ xs) none = unchanged_step x xs (p x) refl none (unchanged xs)

  none_below : (n len : ℕ) (t : Bool) → nat_lt n len ≡ t → cond t (Some n) None ≡ None → nat_lt n len ≡ false
  none_below n len true below none = cc
  none_below n len false below none = below

  -- no item passes
  pub change_none : (xs : List X) → position p xs ≡ None → xs ≡ change_first p change xs
  change_none xs none = unchanged xs (none_below (position_or_len p xs) (length xs) (nat_lt (position_or_len p xs) (length xs)) refl none)
