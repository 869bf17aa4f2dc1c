-- Names that are put into an empty set in turn.
use Rattle.std.proofs.Common.{◌≡◌, ◌∙◌, sym, ap, ℕ, ◌<◌, ◌+◌, Bool, false, ◌++◌, List, [], ◌∷◌, length, get_or, take, if◌then◌else◌, arith}
use Rattle.std.specs.List.{list_any, IsDistinct}
use Rattle.std.specs.Cmp.{IsEquivalence}
use Rattle.std.proofs.lemmas.List.{get_or-take, length-take}
use Rattle.std.proofs.lemmas.List.Folds.{list_any_none}
use Rattle.std.proofs.lemmas.Grind.{take_at_read}
use Rattle.std.proofs.lemmas.Map.Keys.{apart_from_distinct}
use Rattle.std.proofs.lemmas.Option.{slice_get_read, get_or_from_slice_get}
use Rattle.indexmap.specs.IndexSet.{insert_key}

module _ {K : Type 0} (eq : K → K → Bool) (laws : IsEquivalence eq) (names : List K) (distinct : IsDistinct eq names) (i : ℕ) (x : K)
    (within : i < length names) (read : x ≡ get_or names i x) where
  is_at : (d : K) → get_or names i d ≡ x
  is_at d = get_or_from_slice_get names i x d (slice_get_read names (length names) i x (λ _. length names) within read)

  absent : list_any (eq x) (take i names) ≡ false
  absent = list_any_none (eq x) (take i names) (λ k d below.
      let before : k < i = omega (arith, below, length-take i names) in
      ap (eq x) (get_or-take i names k d before)
      ∙ laws.symm x (get_or names k d)
      ∙ ap (eq (get_or names k d)) (sym (is_at d))
      ∙ apart_from_distinct eq names k i d distinct before within)

  pub copied_more : (made more : List K) (y : K) → made ≡ take i names → y ≡ x → more ≡ insert_key eq made y → more ≡ take (i + 1) names
  copied_more made more y so_far same put =
      put
      ∙ ap (λ l. insert_key eq l y) so_far ∙ ap (insert_key eq (take i names)) same
      ∙ ap (λ (b : Bool). if b then take i names else take i names ++ x ∷ []) absent
      ∙ ap (λ z. take i names ++ z ∷ []) (sym (is_at x))
      ∙ sym (take_at_read names i x within).1
