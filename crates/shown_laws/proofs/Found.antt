-- What a test finds among keys.
use Rattle.std.proofs.Common.{◌≡◌, ◌∙◌, ap, sym, refl, ℕ, ◌<◌, Bool, true, false, cond, ◌&&◌, ◌||◌, List, [], ◌∷◌, filter, inl, inr}
use Rattle.std.proofs.lemmas.Bool.{and_from, and_parts, or_cases, or_left, or_right}
use Rattle.std.specs.List.{list_any}
use Rattle.acl_names.proofs.SameAuth.{equal_from_text_eq, text_eq_itself}
use Rattle.acl_names.specs.Text.{text_eq}
use Rattle.listed_privileges.proofs.Bits.{some_below_from}
use Rattle.listed_privileges.specs.Sets.{some_below}
use Rattle.show_grants.specs.Keys.{Pair, same_pair}
use Rattle.shown_laws.proofs.Tests.{both_ways, never}

module _ {K : Type 0} (same : K → K → Bool) (equal : (a b : K) → same a b ≡ true → a ≡ b) (itself : (a : K) → same a a ≡ true) where
  -- a member passes a test that its equal passes
  pub any_member : (f : K → Bool) (k : K) (keys : List K) → list_any (same k) keys ≡ true → f k ≡ true → list_any f keys ≡ true
  any_member f k [] listed passes = never listed
  any_member f k (first ∷ keys) listed passes =
      elim (or_cases (same k first) (list_any (same k) keys) listed) [
        | inl here ↦ or_left (f first) (list_any f keys) (ap f (sym (equal k first here)) ∙ passes)
        | inr later ↦ or_right (f first) (list_any f keys) (any_member f k keys later passes)
      ]

  -- what some key passes is true
  pub any_says : (f : K → Bool) (b : Bool) → ((k : K) → f k ≡ true → b ≡ true) → (keys : List K) → list_any f keys ≡ true → b ≡ true
  any_says f b says [] any = never any
  any_says f b says (k ∷ keys) any =
      elim (or_cases (f k) (list_any f keys) any) [
        | inl here ↦ says k here
        | inr later ↦ any_says f b says keys later
      ]

  -- a test of one key, among keys that have it where it passes
  pub found : (T : K → Bool) (k : K) (keys : List K) → (T k ≡ true → list_any (same k) keys ≡ true) → list_any (λ key. same key k && T key) keys ≡ T k
  found T k keys listed = both_ways (list_any (λ key. same key k && T key) keys) (T k)
      (any_says (λ key. same key k && T key) (T k) (λ key both. let parts = and_parts (same key k) (T key) both in ap T (sym (equal key k parts.0)) ∙ parts.1) keys)
      (λ passes. any_member (λ key. same key k && T key) k keys (listed passes) (and_from (same k k) (T k) (itself k) passes))

  pub any-filter : (p : K → Bool) (k : K) (keys : List K) → list_any (same k) (filter p keys) ≡ (p k && list_any (same k) keys)
  any-filter p k [] = sym (none (p k))
    where
      none : (t : Bool) → (t && false) ≡ false
      none true = refl
      none false = refl
  any-filter p k (first ∷ keys) = by (p first) refl (any-filter p k keys)
    where
      step : (t u : Bool) → same k first ≡ u → p first ≡ t → list_any (same k) (filter p keys) ≡ (p k && list_any (same k) keys)
          → list_any (same k) (cond t (first ∷ filter p keys) (filter p keys)) ≡ (p k && (u || list_any (same k) keys))
      step true true here passes rest =
          let passed : p k ≡ true = ap p (equal k first here) ∙ passes in rw (here, passed) refl
      step true false other passes rest = rw other rest
      step false true here fails rest =
          let failed : p k ≡ false = ap p (equal k first here) ∙ fails in rest ∙ rw failed refl
      step false false other fails rest = rest

      by : (t : Bool) → p first ≡ t → list_any (same k) (filter p keys) ≡ (p k && list_any (same k) keys)
          → list_any (same k) (cond t (first ∷ filter p keys) (filter p keys)) ≡ (p k && (same k first || list_any (same k) keys))
      by t is rest = step t (same k first) refl is rest

pub same_pair_itself : (x : Pair) → same_pair x x ≡ true
same_pair_itself x = and_from (text_eq x.0 x.0) (text_eq x.1 x.1) (text_eq_itself x.0) (text_eq_itself x.1)

pub equal_from_same_pair : (x y : Pair) → same_pair x y ≡ true → x ≡ y
equal_from_same_pair x y same =
    let parts = and_parts (text_eq x.0 y.0) (text_eq x.1 y.1) same in
    let first : x.0 ≡ y.0 = equal_from_text_eq x.0 y.0 parts.0 in
    let second : x.1 ≡ y.1 = equal_from_text_eq x.1 y.1 parts.1 in
    λ i. (first i, second i)

pub text_found : (T : List ℕ → Bool) (k : List ℕ) (keys : List (List ℕ)) → (T k ≡ true → list_any (text_eq k) keys ≡ true) → list_any (λ key. text_eq key k && T key) keys ≡ T k
text_found = found text_eq equal_from_text_eq text_eq_itself

pub pair_found : (T : Pair → Bool) (k : Pair) (keys : List Pair) → (T k ≡ true → list_any (same_pair k) keys ≡ true) → list_any (λ key. same_pair key k && T key) keys ≡ T k
pair_found = found same_pair equal_from_same_pair same_pair_itself

-- a line that stands where some number passes
pub some_and : (limit n : ℕ) (T : ℕ → Bool) → (T n ≡ true → n < limit) → (some_below limit T && T n) ≡ T n
some_and limit n T bounded = by (T n) refl
  where
    by : (t : Bool) → T n ≡ t → (some_below limit T && t) ≡ t
    by true passes = and_from (some_below limit T) true (some_below_from limit n T (bounded passes) passes) refl
    by false fails = none (some_below limit T)
      where
        none : (u : Bool) → (u && false) ≡ false
        none true = refl
        none false = refl
