-- Sets that are filled number by number.
use Rattle.std.proofs.Common.{◌≡◌, ◌∙◌, ap, sym, refl, ℕ, ◌+◌, ◌<◌, ◌≤◌, ◌==◌, Bool, true, false, ◌&&◌, ◌||◌, inl, inr, arith}
use Rattle.std.proofs.lemmas.Bool.{cases_eq, eq-eqb, ne_eqb}

-- below a number the set holds what passes, and from there on nothing
pub record IsFilledTo (test set : ℕ → Bool) (n : ℕ) : Type 0 where
  pub below : (q : ℕ) → q < n → set q ≡ test q
  pub above : (q : ℕ) → n ≤ q → set q ≡ false

pub filled_none : (test set : ℕ → Bool) → ((q : ℕ) → set q ≡ false) → IsFilledTo test set 0
filled_none test set none = record { below = λ q h. absurd (omega arith); above = λ q _. none q }

and_self : (a b c : Bool) → b ≡ true → c ≡ false → ((a && b) || c) ≡ a
and_self true b c holds_b fails_c = rw holds_b refl
and_self false b c holds_b fails_c = fails_c

and_none : (a b c : Bool) → b ≡ false → ((a && b) || c) ≡ c
and_none true b c fails_b = rw fails_b refl
and_none false b c fails_b = refl

pub filled_more : (test old new : ℕ → Bool) (n : ℕ) (given : Bool) → given ≡ test n → ((q : ℕ) → new q ≡ ((given && q == n) || old q)) → IsFilledTo test old n → IsFilledTo test new (n + 1)
filled_more test old new n given is more filled = record {
  below = λ q h. elim (cases_eq q n) [
    | inl same ↦ more q ∙ and_self given (q == n) (old q) (eq-eqb q n same) (filled.above q (omega arith)) ∙ is ∙ ap test (sym same)
    | inr other ↦ more q ∙ and_none given (q == n) (old q) (ne_eqb q n other) ∙ filled.below q (omega arith)
  ];
  above = λ q h. more q ∙ and_none given (q == n) (old q) (ne_eqb q n (λ same. omega arith)) ∙ filled.above q (omega arith);
}
