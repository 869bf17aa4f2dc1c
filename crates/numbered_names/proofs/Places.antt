-- What stands at a place of a list that is edited.
use Rattle.std.proofs.Common.{◌≡◌, ◌≢◌, ◌∙◌, refl, sym, ap, ℕ, suc, zero, ◌<◌, ◌≤◌, ◌+◌, ◌-◌, ◌++◌, List, [], ◌∷◌, length, get_or, slice_get, Option, None, Some, arith, take, set, length-append}
use Rattle.std.specs.List.{swap_remove}
use Rattle.std.specs.Option.{IfSome}
use Rattle.std.proofs.lemmas.Grind.{common_steps}
use Rattle.std.proofs.lemmas.Option.{slice_get-get_or, slice_get_past, none-some}

module _ {X : Type 0} where
  pub slice_get-set_same : (xs : List X) (place : ℕ) (y : X) → place < length xs → slice_get (set xs place y) place ≡ Some y
  slice_get-set_same [] place y within = absurd (omega arith)
  slice_get-set_same (x ∷ xs) zero y within = refl
  slice_get-set_same (x ∷ xs) (suc place) y within = slice_get-set_same xs place y (omega arith)

  pub slice_get-set_other : (xs : List X) (place other : ℕ) (y : X) → other ≢ place → slice_get (set xs place y) other ≡ slice_get xs other
  slice_get-set_other [] place other y apart = refl
  slice_get-set_other (x ∷ xs) zero zero y apart = absurd (apart refl)
  slice_get-set_other (x ∷ xs) zero (suc other) y apart = refl
  slice_get-set_other (x ∷ xs) (suc place) zero y apart = refl
  slice_get-set_other (x ∷ xs) (suc place) (suc other) y apart = slice_get-set_other xs place other y (λ e. apart (ap suc e))

  pub slice_get-push_last : (xs : List X) (y : X) → slice_get (xs ++ y ∷ []) (length xs) ≡ Some y
  slice_get-push_last [] y = refl
  slice_get-push_last (x ∷ xs) y = slice_get-push_last xs y

  pub slice_get-push_other : (xs : List X) (other : ℕ) (y : X) → other ≢ length xs → slice_get (xs ++ y ∷ []) other ≡ slice_get xs other
  slice_get-push_other [] zero y apart = absurd (apart refl)
  slice_get-push_other [] (suc other) y apart = refl
  slice_get-push_other (x ∷ xs) zero y apart = refl
  slice_get-push_other (x ∷ xs) (suc other) y apart = slice_get-push_other xs other y (λ e. apart (ap suc e))

  slice_get-take : (xs : List X) (n place : ℕ) → place < n → slice_get (take n xs) place ≡ slice_get xs place
  slice_get-take xs zero place within = absurd (omega arith)
  slice_get-take [] (suc n) place within = refl
  slice_get-take (x ∷ xs) (suc n) zero within = refl
  slice_get-take (x ∷ xs) (suc n) (suc place) within = slice_get-take xs n place (omega arith)

  -- an item goes, and the last one takes its place
  module _ (xs : List X) (place last : ℕ) (d : X) (within : place < length xs) (ends : last + 1 ≡ length xs) where
    cut_at_last : swap_remove xs place d ≡ take last (set xs place (get_or xs last d))
    cut_at_last =
        let is_last : length xs - 1 ≡ last = omega arith in
        ap (λ n. take n (set xs place (get_or xs n d))) is_last

    pub slice_get-gone_last : slice_get (swap_remove xs place d) last ≡ None
    slice_get-gone_last =
        ap (λ l. slice_get l last) cut_at_last
        ∙ slice_get_past (take last (set xs place (get_or xs last d))) last (grind (arith, common_steps))

    pub slice_get-gone_place : place < last → slice_get (swap_remove xs place d) place ≡ slice_get xs last
    slice_get-gone_place before =
        ap (λ l. slice_get l place) cut_at_last
        ∙ slice_get-take (set xs place (get_or xs last d)) last place before
        ∙ slice_get-set_same xs place (get_or xs last d) within
        ∙ sym (slice_get-get_or xs last d (omega arith))

    pub slice_get-gone_other : (other : ℕ) → other < last → other ≢ place → slice_get (swap_remove xs place d) other ≡ slice_get xs other
    slice_get-gone_other other before apart =
        ap (λ l. slice_get l other) cut_at_last
        ∙ slice_get-take (set xs place (get_or xs last d)) last other before
        ∙ slice_get-set_other xs place other (get_or xs last d) apart

    pub slice_get-gone_past : (other : ℕ) → last ≤ other → slice_get (swap_remove xs place d) other ≡ None
    slice_get-gone_past other past =
        ap (λ l. slice_get l other) cut_at_last
        ∙ slice_get_past (take last (set xs place (get_or xs last d))) other (grind (arith, common_steps))

  set-append : (xs : List X) (place : ℕ) (y z : X) → place < length xs → set (xs ++ z ∷ []) place y ≡ set xs place y ++ z ∷ []
  set-append [] place y z within = absurd (omega arith)
  set-append (x ∷ xs) zero y z within = refl
  set-append (x ∷ xs) (suc place) y z within = ap (λ rest. x ∷ rest) (set-append xs place y z (omega arith))

  take_front : (xs : List X) (z : X) (n : ℕ) → n ≡ length xs → take n (xs ++ z ∷ []) ≡ xs
  take_front xs z n all = grind (arith, common_steps)

  last_item : (xs : List X) (z d : X) (n : ℕ) → n ≡ length xs → get_or (xs ++ z ∷ []) n d ≡ z
  last_item xs z d n all = grind (arith, common_steps)

  length_less : (xs : List X) (z : X) → length (xs ++ z ∷ []) - 1 ≡ length xs
  length_less xs z = omega (arith, length-append xs (z ∷ []))

  -- the last item takes the place of the one that goes
  swap_remove-push : (xs : List X) (place : ℕ) (y d : X) → place < length xs → swap_remove (xs ++ y ∷ []) place d ≡ set xs place y
  swap_remove-push xs place y d within =
      ap (λ n. take n (set (xs ++ y ∷ []) place (get_or (xs ++ y ∷ []) n d))) (length_less xs y)
      ∙ ap (λ z. take (length xs) (set (xs ++ y ∷ []) place z)) (last_item xs y d (length xs) refl)
      ∙ ap (take (length xs)) (set-append xs place y y within)
      ∙ take_front (set xs place y) y (length xs) (grind (arith, common_steps))

  pub replaced : (r : Option X) (xs ys zs : List X) (place : ℕ) (y : X) → place < length xs → ys ≡ xs ++ y ∷ [] → r ≡ slice_get ys place →
      IfSome r (λ d. zs ≡ swap_remove ys place d) → zs ≡ set xs place y
  replaced None xs ys zs place y within pushed found gone =
      absurd (none-some (get_or ys place y) (found ∙ slice_get-get_or ys place y (omega (arith, within, ap length pushed, length-append xs (y ∷ [])))))
  replaced (Some d) xs ys zs place y within pushed found gone =
      gone ∙ ap (λ l. swap_remove l place d) pushed ∙ swap_remove-push xs place y d within
