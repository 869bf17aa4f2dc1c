-- The members of a set in order, and the first of them.
use Rattle.std.proofs.Common.{◌≡◌, ◌≢◌, ◌∙◌, ap, refl, ℕ, ◌+◌, ◌<◌, ◌≤◌, ◌==◌, ◌&&◌, Bool, true, false, not, List, [], ◌∷◌, filter, length, zero, suc, inl, inr, arith}
use Rattle.std.proofs.lemmas.Bool.{cases_eq, eq-eqb, ne_eqb}
use Rattle.std.specs.List.{range_with_len}
use Rattle.priv_sets.specs.DynamicSet.{holds_dynamic, dynamic_members}
use Rattle.priv_sets.specs.StaticSet.{holds, members}
use Rattle.priv_sets.specs.declared.dynamic_set.DynSet.{DynSet}
use Rattle.priv_sets.specs.declared.static_set.Static.{Static}

-- no number of a range passes
pub none_pass : (s : ℕ → Bool) (a n : ℕ) → ((q : ℕ) → q < a + n → s q ≡ false) → filter s (range_with_len a n) ≡ []
none_pass s a zero none = refl
none_pass s a (suc n) none = rw (none a (omega arith)) (none_pass s (a + 1) n (λ q below. none q (omega arith)))

-- two tests that differ at p alone are the same after p
same_after : (s t : ℕ → Bool) (p a n : ℕ) → p < a → ((q : ℕ) → q ≢ p → t q ≡ s q) → filter s (range_with_len a n) ≡ filter t (range_with_len a n)
same_after s t p a zero past others = refl
same_after s t p a (suc n) past others =
    rw (others a (λ same. omega arith), same_after s t p (a + 1) n (omega arith) others) refl

-- the first number that passes, and then the rest
pub first_then_rest : (s t : ℕ → Bool) (p a n : ℕ) → a ≤ p → p < a + n → s p ≡ true → ((q : ℕ) → q < p → s q ≡ false) → t p ≡ false → ((q : ℕ) → q ≢ p → t q ≡ s q) → filter s (range_with_len a n) ≡ p ∷ filter t (range_with_len a n)
first_then_rest s t p a zero from below here before gone others = absurd (omega arith)
first_then_rest s t p a (suc n) from below here before gone others =
    elim (cases_eq a p) [
      | inl same ↦ rw (same, here, gone) (ap (λ rest. p ∷ rest) (same_after s t p (p + 1) n (omega arith) others))
      | inr other ↦ rw (others a other, before a (omega arith)) (first_then_rest s t p (a + 1) n (omega arith) (omega arith) here before gone others)
    ]

-- a set that holds nothing has no members
pub none_left : (set : Static) → ((q : ℕ) → q < 31 → holds set q ≡ false) → members set ≡ []
unfolding members
none_left set none = none_pass (holds set) 0 31 (λ q below. none q (omega arith))

-- a set without its first privilege has the other members
pub taken : (old new : Static) (p : ℕ) → p < 31 → holds old p ≡ true → ((q : ℕ) → q < p → holds old q ≡ false) → ((q : ℕ) → holds new q ≡ (not (q == p) && holds old q)) → members old ≡ p ∷ members new
unfolding members
taken old new p below here before after =
    first_then_rest (holds old) (holds new) p 0 31 (omega arith) (omega arith) here before
    (after p ∙ ap (λ is. not is && holds old p) (eq-eqb p p refl))
    (λ q other. after q ∙ ap (λ is. not is && holds old q) (ne_eqb q p other))

pub fewer_left : (more fewer : List ℕ) (p : ℕ) → more ≡ p ∷ fewer → length fewer < length more
fewer_left more fewer p all = omega (arith, ap length all)

-- the same of dynamic privileges
pub none_left_dynamic : (set : DynSet) → ((q : ℕ) → q < 20 → holds_dynamic set q ≡ false) → dynamic_members set ≡ []
unfolding dynamic_members
none_left_dynamic set none = none_pass (holds_dynamic set) 0 20 (λ q below. none q (omega arith))

pub taken_dynamic : (old new : DynSet) (p : ℕ) → p < 20 → holds_dynamic old p ≡ true → ((q : ℕ) → q < p → holds_dynamic old q ≡ false) → ((q : ℕ) → holds_dynamic new q ≡ (not (q == p) && holds_dynamic old q)) → dynamic_members old ≡ p ∷ dynamic_members new
unfolding dynamic_members
taken_dynamic old new p below here before after =
    first_then_rest (holds_dynamic old) (holds_dynamic new) p 0 20 (omega arith) (omega arith) here before
    (after p ∙ ap (λ is. not is && holds_dynamic old p) (eq-eqb p p refl))
    (λ q other. after q ∙ ap (λ is. not is && holds_dynamic old q) (ne_eqb q p other))
