-- Words of 64 bits as a set of numbers.
use Rattle.std.proofs.Common.{◌≡◌, ◌≢◌, ◌∙◌, refl, sym, ap, ℕ, Bool, true, false, not, ◌<◌, ◌+◌, ◌/◌, ◌%◌, ◌*◌, ◌^◌, ◌==◌, ◌||◌, ◌&&◌, List, length, get_or, set, replicate, zero, suc, inl, inr, bit_or, bit_and, arith}
use Rattle.std.proofs.lemmas.Bool.{cases_eq, cases_lt, eq-eqb, ne_eqb, true≢false}
use Rattle.std.proofs.lemmas.List.{get_or-set_same, get_or-set_other, get_or_past}
use Rattle.std.proofs.lemmas.Nat.Bits.{bit_at_set_same, bit_at_set_other, bit_at_clear_same, bit_at_clear_other, bit_at-zero, bit_at-trailing_zeros, shr_and_one}
use Rattle.std.specs.Int.{bit_at, bit_not, trailing_zeros, w64}

-- whether the words hold a number
abbrev pub in_words : List ℕ → ℕ → Bool
in_words words n = bit_at (get_or words (n / 64) 0) (n % 64) == 1

pub test_bit : (words : List ℕ) (n : ℕ) → (bit_and (get_or words (n / 64) 0 / 2 ^ (n % 64)) 1 == 1) ≡ in_words words n
test_bit words n = ap (λ bit. bit == 1) (shr_and_one (get_or words (n / 64) 0) (n % 64))

-- a word without bits holds nothing
pub zero_word : (words : List ℕ) (n : ℕ) → get_or words (n / 64) 0 ≡ 0 → in_words words n ≡ false
zero_word words n none = ap (λ word. bit_at word (n % 64) == 1) none ∙ ap (λ bit. bit == 1) (bit_at-zero (n % 64))

-- setting bit k of the word at this place adds one number
pub set_bit : (words : List ℕ) (place k n : ℕ) → place < length words → k < 64 →
    in_words (set words place (bit_or (get_or words place 0) (1 * 2 ^ k % 2 ^ 64))) n ≡ ((place * 64 + k == n) || in_words words n)
set_bit words place k n inside within =
    elim (cases_eq (n / 64) place) [
      | inl here ↦
          elim (cases_eq (n % 64) k) [
            | inl same ↦
                let both : place * 64 + k ≡ n = omega arith in
                rw (here, get_or-set_same, same, bit_at_set_same w64 (get_or words place 0) k within, eq-eqb (place * 64 + k) n both)
            | inr other ↦
                let differ : place * 64 + k ≢ n = omega arith in
                rw (here, get_or-set_same, bit_at_set_other w64 (get_or words place 0) k within (n % 64) other, ne_eqb (place * 64 + k) n differ)
          ]
      | inr there ↦
          let differ : place * 64 + k ≢ n = omega arith in
          rw (get_or-set_other, ne_eqb (place * 64 + k) n differ)
    ]

-- clearing it takes one number out
pub clear_bit : (words : List ℕ) (place k n : ℕ) → place < length words → k < 64 →
    in_words (set words place (bit_and (get_or words place 0) (bit_not w64 (1 * 2 ^ k % 2 ^ 64)))) n ≡ (not (place * 64 + k == n) && in_words words n)
clear_bit words place k n inside within =
    elim (cases_eq (n / 64) place) [
      | inl here ↦
          elim (cases_eq (n % 64) k) [
            | inl same ↦
                let both : place * 64 + k ≡ n = omega arith in
                rw (here, get_or-set_same, same, bit_at_clear_same w64 (get_or words place 0) k within, eq-eqb (place * 64 + k) n both)
            | inr other ↦
                let differ : place * 64 + k ≢ n = omega arith in
                let below : n % 64 < 64 = omega arith in
                rw (here, get_or-set_same, bit_at_clear_other w64 (get_or words place 0) k within (n % 64) below other, ne_eqb (place * 64 + k) n differ)
          ]
      | inr there ↦
          let differ : place * 64 + k ≢ n = omega arith in
          rw (get_or-set_other, ne_eqb (place * 64 + k) n differ)
    ]

-- the lowest bit of the first word that has any is the lowest number
pub lowest_is_held : (words : List ℕ) (place : ℕ) → 0 < get_or words place 0 → get_or words place 0 < 2 ^ 64 →
    in_words words (place * 64 + trailing_zeros w64 (get_or words place 0)) ≡ true
lowest_is_held words place some fits =
    let lowest = bit_at-trailing_zeros w64 (get_or words place 0) some fits in
    let place_is : (place * 64 + trailing_zeros w64 (get_or words place 0)) / 64 ≡ place = omega (arith, lowest.0) in
    let bit_is : (place * 64 + trailing_zeros w64 (get_or words place 0)) % 64 ≡ trailing_zeros w64 (get_or words place 0) = omega (arith, lowest.0) in
    rw (place_is, bit_is, lowest.1) refl

pub below_lowest : (words : List ℕ) (place n : ℕ) → 0 < get_or words place 0 → get_or words place 0 < 2 ^ 64 →
    ((k : ℕ) → k < place → get_or words k 0 ≡ 0) → n < place * 64 + trailing_zeros w64 (get_or words place 0) → in_words words n ≡ false
below_lowest words place n some fits zeros below =
    let lowest = bit_at-trailing_zeros w64 (get_or words place 0) some fits in
    elim (cases_eq (n / 64) place) [
      | inl here ↦
          let lower : n % 64 < trailing_zeros w64 (get_or words place 0) = omega (arith, lowest.0) in
          rw (here, lowest.2 (n % 64) lower) refl
      | inr there ↦
          let before : n / 64 < place = omega (arith, lowest.0) in
          zero_word words n (zeros (n / 64) before)
    ]

pub no_words : (count n : ℕ) → get_or (replicate {A = ℕ} count 0) n 0 ≡ 0
no_words zero n = refl
no_words (suc count) zero = refl
no_words (suc count) (suc n) = no_words count n

-- 64 words without bits hold nothing
pub all_zero : (words : List ℕ) → length words ≡ 64 → ((k : ℕ) → k < 64 → get_or words k 0 ≡ 0) → (n : ℕ) → in_words words n ≡ false
all_zero words size zeros n =
    elim (cases_lt (n / 64) 64) [
      | inl inside ↦ zero_word words n (zeros (n / 64) inside)
      | inr past ↦ zero_word words n (get_or_past words (n / 64) 0 (omega (arith, past, size)))
    ]

pub lowest_below : (word : ℕ) → 0 < word → word < 2 ^ 64 → trailing_zeros w64 word < 64
lowest_below word some fits = (bit_at-trailing_zeros w64 word some fits).0

-- 64 words hold small numbers alone
pub in_words_small : (words : List ℕ) (n : ℕ) → length words ≡ 64 → in_words words n ≡ true → n < 4096
in_words_small words n size is =
    elim (cases_lt n 4096) [
      | inl small ↦ small
      | inr large ↦ absurd (true≢false (sym is ∙ zero_word words n (get_or_past words (n / 64) 0 (omega (arith, large, size)))))
    ]
