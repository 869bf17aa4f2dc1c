-- How many things have entries.
use Rattle.std.proofs.Common.{◌≡◌, ◌≢◌, ◌∙◌, refl, sym, ap, ℕ, zero, suc, Bool, true, false, ◌<◌, ◌+◌, ◌==◌, ◌||◌, ◌++◌, List, [], ◌∷◌, length, Option, None, Some, is_some, count_by, nat_lt, if◌then◌else◌, inl, inr, arith}
use Rattle.std.specs.List.{list_any}
use Rattle.std.specs.Cmp.{IsEquivalence}
use Rattle.std.proofs.lemmas.Bool.{cases_eq, eq-eqb, ne_eqb, lt-ltb, true≢false}
use Rattle.std.proofs.lemmas.List.Sums.{sum_by-cons}
use Rattle.numbered_names.specs.Numbered.{name_at, is_name, HasEachOnce}
use Rattle.held_bits.specs.declared.record.Record.{Record}
use Rattle.held_bits.specs.HeldBits.{CountsThings, has_thing, thing_count}
use Rattle.held_bits.specs.Records.{entries_of, entry_of, has_number, number_uses}
use Rattle.held_bits.proofs.Entries.{IsNamed, any_known, is_some_from_name, named_tail, one_if, uses_cons, uses_head}

-- how many numbers the records name
abbrev distinct_numbers : List Record → ℕ
distinct_numbers [] = 0
distinct_numbers (r ∷ rs) = (if list_any (has_number r.thing) rs then 0 else 1) + distinct_numbers rs

-- how many numbers below a bound pass a test
abbrev count_numbers : ℕ → (ℕ → Bool) → ℕ
count_numbers zero f = 0
count_numbers (suc n) f = one_if (f 0) + count_numbers n (λ m. f (suc m))

same_tests : (n : ℕ) (f g : ℕ → Bool) → ((m : ℕ) → f m ≡ g m) → count_numbers n f ≡ count_numbers n g
same_tests zero f g same = refl
same_tests (suc n) f g same =
    ap (λ (b : Bool). one_if b + count_numbers n (λ m. f (suc m))) (same 0)
    ∙ ap (λ x. one_if (g 0) + x) (same_tests n (λ m. f (suc m)) (λ m. g (suc m)) (λ m. same (suc m)))

none_pass : (n : ℕ) → count_numbers n (λ m. false) ≡ 0
none_pass zero = refl
none_pass (suc n) = omega (arith, none_pass n)

both_less : (m t : ℕ) → (suc m == suc t) ≡ (m == t)
both_less m t =
    elim (cases_eq m t) [
      | inl same ↦ eq-eqb (suc m) (suc t) (ap suc same) ∙ sym (eq-eqb m t same)
      | inr apart ↦ ne_eqb (suc m) (suc t) (λ e. apart (omega arith)) ∙ sym (ne_eqb m t apart)
    ]

-- one number more passes
one_passes : (n t : ℕ) (f : ℕ → Bool) → t < n → count_numbers n (λ m. (m == t) || f m) ≡ (if f t then 0 else 1) + count_numbers n f
one_passes zero t f within = absurd (omega arith)
one_passes (suc n) zero f within =
    ap (λ x. one_if true + x) (same_tests n (λ m. (suc m == 0) || f (suc m)) (λ m. f (suc m))
    (λ m. ap (λ (b : Bool). b || f (suc m)) (ne_eqb (suc m) 0 (λ e. omega arith))))
    ∙ by (f 0)
  where
    by : (b : Bool) → one_if true + count_numbers n (λ m. f (suc m)) ≡ (if b then 0 else 1) + (one_if b + count_numbers n (λ m. f (suc m)))
    by true = omega arith
    by false = omega arith
one_passes (suc n) (suc t) f within =
    ap (λ (b : Bool). one_if (b || f 0) + count_numbers n (λ m. (suc m == suc t) || f (suc m))) (ne_eqb 0 (suc t) (λ e. omega arith))
    ∙ ap (λ x. one_if (f 0) + x)
    (same_tests n (λ m. (suc m == suc t) || f (suc m)) (λ m. (m == t) || f (suc m)) (λ m. ap (λ (b : Bool). b || f (suc m)) (both_less m t))
    ∙ one_passes n t (λ m. f (suc m)) (omega arith))
    ∙ omega arith

-- tests that agree but at one number pass as many others
one_changes : (n t : ℕ) (f g : ℕ → Bool) → t < n → ((m : ℕ) → m ≢ t → f m ≡ g m) → count_numbers n f + one_if (g t) ≡ count_numbers n g + one_if (f t)
one_changes zero t f g within same = absurd (omega arith)
one_changes (suc n) zero f g within same =
    omega (arith, same_tests n (λ m. f (suc m)) (λ m. g (suc m)) (λ m. same (suc m) (λ e. omega arith)))
one_changes (suc n) (suc t) f g within same =
    omega (
      arith,
      ap one_if (same 0 (λ e. omega arith)),
      one_changes n t (λ m. f (suc m)) (λ m. g (suc m)) (omega arith) (λ m apart. same (suc m) (λ e. apart (omega arith))),
    )

-- some record has a number where its count is above 0
pub any_used : (n : ℕ) (rs : List Record) → list_any (has_number n) rs ≡ nat_lt 0 (number_uses rs n)
any_used n [] = refl
any_used n (r ∷ rs) =
    ap (λ (b : Bool). (n == r.thing) || b) (any_used n rs)
    ∙ step (n == r.thing) (number_uses rs n) ∙ ap (nat_lt 0) (sym (uses_cons n r rs))
  where
    step : (b : Bool) (x : ℕ) → (b || nat_lt 0 x) ≡ nat_lt 0 (one_if b + x)
    step true x = sym (lt-ltb 0 (one_if true + x) (omega arith))
    step false x = ap (nat_lt 0) (omega arith)

-- of the numbers below a bound, so many have records
pub numbers_used : (size : ℕ) (rs : List Record) → ((n : ℕ) → 0 < number_uses rs n → n < size) →
    count_numbers size (λ n. nat_lt 0 (number_uses rs n)) ≡ distinct_numbers rs
numbers_used size [] within = same_tests size (λ n. nat_lt 0 (number_uses [] n)) (λ n. false) (λ n. refl) ∙ none_pass size
numbers_used size (r ∷ rs) within =
    same_tests size (λ n. nat_lt 0 (number_uses (r ∷ rs) n)) (λ n. (n == r.thing) || nat_lt 0 (number_uses rs n))
    (λ n. sym (any_used n (r ∷ rs)) ∙ ap (λ (b : Bool). (n == r.thing) || b) (any_used n rs))
    ∙ one_passes size r.thing (λ n. nat_lt 0 (number_uses rs n)) (within r.thing (uses_head r rs))
    ∙ ap (λ (b : Bool). (if b then 0 else 1) + count_numbers size (λ n. nat_lt 0 (number_uses rs n))) (sym (any_used r.thing rs))
    ∙ ap (λ x. (if list_any (has_number r.thing) rs then 0 else 1) + x)
    (numbers_used size rs (λ n used. within n (omega (arith, used, uses_cons n r rs))))

module _ {K : Type 0} where
  pub names_pass : (names : List (Option K)) (f : ℕ → Bool) → ((n : ℕ) → is_some (name_at names n) ≡ f n) → count_by is_some names ≡ count_numbers (length names) f
  names_pass [] f stands = refl
  names_pass (o ∷ os) f stands =
      sum_by-cons (λ x. one_if (is_some x)) o os
      ∙ ap (λ (b : Bool). one_if b + count_by is_some os) (stands 0)
      ∙ ap (λ x. one_if (f 0) + x) (names_pass os (λ n. f (suc n)) (λ n. stands (suc n)))

  pub name_within : (names : List (Option K)) (n : ℕ) → is_some (name_at names n) ≡ true → n < length names
  name_within [] n is = absurd (true≢false (sym is))
  name_within (o ∷ os) zero is = omega arith
  name_within (o ∷ os) (suc n) is = omega (arith, name_within os n is)

  -- each thing counts at its last entry, as its number does at its last record
  pub things_known : (eq : K → K → Bool) → IsEquivalence eq → (names : List (Option K)) → HasEachOnce eq names → (rs : List Record) → IsNamed names rs →
      thing_count eq (entries_of names rs) ≡ distinct_numbers rs
  things_known eq laws names once [] all = refl
  things_known eq laws names once (r ∷ rs) all = by (name_at names r.thing) refl (things_known eq laws names once rs (named_tail names r rs all))
    where
      by : (o : Option K) → name_at names r.thing ≡ o → thing_count eq (entries_of names rs) ≡ distinct_numbers rs →
          thing_count eq (entry_of o r ++ entries_of names rs) ≡ distinct_numbers (r ∷ rs)
      by None none rest = absurd (true≢false (sym (all.named r.thing (uses_head r rs)) ∙ ap is_some none))
      by (Some k) some rest =
          ap (λ (b : Bool). (if b then 0 else 1) + thing_count eq (entries_of names rs))
          (any_known eq laws names once rs r.thing k (ap (is_name eq k) some ∙ laws.refl k))
          ∙ ap (λ x. (if list_any (has_number r.thing) rs then 0 else 1) + x) rest

  -- of the things that have entries, that of one number alone comes or goes
  pub things_changed : (eq : K → K → Bool) → IsEquivalence eq → (names : List (Option K)) → HasEachOnce eq names → (rs more : List Record) → IsNamed names rs → IsNamed names more →
      (number : ℕ) (thing : K) → is_name eq thing (name_at names number) ≡ true → ((n : ℕ) → n ≢ number → number_uses more n ≡ number_uses rs n) →
      CountsThings eq (entries_of names rs) (entries_of names more) thing
  things_changed eq laws names once rs more all all_more number thing is same =
      omega (
        arith,
        counted rs all,
        counted more all_more,
        here rs,
        here more,
        one_changes (length names) number (λ n. nat_lt 0 (number_uses more n)) (λ n. nat_lt 0 (number_uses rs n))
            (name_within names number (is_some_from_name eq thing (name_at names number) is)) (λ n apart. ap (nat_lt 0) (same n apart)),
      )
    where
      counted : (xs : List Record) → IsNamed names xs → thing_count eq (entries_of names xs) ≡ count_numbers (length names) (λ n. nat_lt 0 (number_uses xs n))
      counted xs named = things_known eq laws names once xs named ∙ sym (numbers_used (length names) xs (λ n used. name_within names n (named.named n used)))

      here : (xs : List Record) → (if has_thing eq (entries_of names xs) thing then 1 else 0) ≡ one_if (nat_lt 0 (number_uses xs number))
      here xs = ap one_if (any_known eq laws names once xs number thing is ∙ any_used number xs)
