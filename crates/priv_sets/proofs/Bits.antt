-- A number of 32 bits as a set: what `|`, `&`, `& !` and `1 <<` make of it.
use Rattle.std.proofs.Common.{◌≡◌, ◌∙◌, refl, sym, ap, ℕ, ◌-◌, ◌<◌, ◌≤◌, ◌%◌, ◌*◌, ◌^◌, ◌==◌, ◌||◌, ◌&&◌, Bool, true, false, not, nat_lt, min, max, inl, inr, bit_or, bit_and, arith}
use Rattle.std.proofs.lemmas.Bool.{true≢false, cases_eq, cases_lt, eq-eqb, ne_eqb, lt-ltb, le-ltb, agree_below, agree_below_at}
use Rattle.std.proofs.lemmas.Bool.Decides.{nat_tests}
use Rattle.std.proofs.lemmas.Nat.{or_lt}
use Rattle.std.proofs.Math.Pow.{pow-lt}
use Rattle.std.proofs.lemmas.Nat.Bits.{bit_at-zero, bit_at-lt, bit_at_and, bit_at_or, bit_at_not, bit_at_above, bit_at_ones, bit_at_ones_above, bit_at_set_same, bit_at_set_other, same_from_bits}
use Rattle.std.specs.Int.{bit_at, bit_not, w32}

-- setting bit k adds k to the set
pub set_bit : (n k q : ℕ) → k < 32 → (bit_at (bit_or n (1 * 2 ^ k % 2 ^ 32)) q == 1) ≡ (q == k || bit_at n q == 1)
set_bit n k q within =
    elim (cases_eq q k) [
      | inl same ↦ rw (same, bit_at_set_same w32 n k within, eq-eqb k k refl)
      | inr other ↦ rw (bit_at_set_other w32 n k within q other, ne_eqb q k other)
    ]

-- the tests of one bit that these make
max_test : (a b : ℕ) → a < 2 → b < 2 → (max a b == 1) ≡ (a == 1 || b == 1)
max_test a b a_bit b_bit = grind (arith, nat_tests)

min_test : (a b : ℕ) → a < 2 → b < 2 → (min a b == 1) ≡ (a == 1 && b == 1)
min_test a b a_bit b_bit = grind (arith, nat_tests)

less_test : (a b : ℕ) → a < 2 → b < 2 → (min a (1 - b) == 1) ≡ (a == 1 && not (b == 1))
less_test a b a_bit b_bit = grind (arith, nat_tests)

none_test : (a b c : ℕ) → a ≡ 0 → (min a b == 1) ≡ (a == 1 && not (c == 1))
none_test a b c none = grind (arith, nat_tests)

same_test : (a b : ℕ) → a < 2 → b < 2 → (a == 1) ≡ (b == 1) → a ≡ b
same_test a b a_bit b_bit same = grind (arith, nat_tests)

within_test : (a b : ℕ) → a < 2 → b < 2 → (b == 1 && not (a == 1)) ≡ false → min a b ≡ b
within_test a b a_bit b_bit within = grind (arith, nat_tests)

pub or_bits : (a b q : ℕ) → (bit_at (bit_or a b) q == 1) ≡ (bit_at a q == 1 || bit_at b q == 1)
or_bits a b q = rw (bit_at_or a b q) (max_test (bit_at a q) (bit_at b q) (bit_at-lt a q) (bit_at-lt b q))

pub and_bits : (a b q : ℕ) → (bit_at (bit_and a b) q == 1) ≡ (bit_at a q == 1 && bit_at b q == 1)
and_bits a b q = rw (bit_at_and a b q) (min_test (bit_at a q) (bit_at b q) (bit_at-lt a q) (bit_at-lt b q))

pub and_not_bits : (a b q : ℕ) → a < 2 ^ 32 → b < 2 ^ 32 → (bit_at (bit_and a (bit_not w32 b)) q == 1) ≡ (bit_at a q == 1 && not (bit_at b q == 1))
and_not_bits a b q a_fits b_fits =
    elim (cases_lt q 32) [
      | inl inside ↦ rw (bit_at_and a (bit_not w32 b) q, bit_at_not w32 b q b_fits inside) (less_test (bit_at a q) (bit_at b q) (bit_at-lt a q) (bit_at-lt b q))
      | inr above ↦ rw (bit_at_and a (bit_not w32 b) q) (none_test (bit_at a q) (bit_at (bit_not w32 b) q) (bit_at b q) (bit_at_above a 32 q a_fits above))
    ]

pub zero_bits : (q : ℕ) → (bit_at 0 q == 1) ≡ false
zero_bits q = ap (λ bit. bit == 1) (bit_at-zero q)

or_false : (x : Bool) → (x || false) ≡ x
or_false true = refl
or_false false = refl

and_swap : (x y : Bool) → (x && y) ≡ (y && x)
and_swap true true = refl
and_swap true false = refl
and_swap false true = refl
and_swap false false = refl

-- the set of k alone
pub one_bit : (k q : ℕ) → k < 32 → (bit_at (1 * 2 ^ k % 2 ^ 32) q == 1) ≡ (q == k)
one_bit k q within = set_bit 0 k q within ∙ (ap (λ rest. q == k || rest) (zero_bits q) ∙ or_false (q == k))

one_fits : (k : ℕ) → 1 * 2 ^ k % 2 ^ 32 < 2 ^ 32
one_fits k = omega arith

-- clearing bit k takes k from the set
pub clear_bit : (n k q : ℕ) → n < 2 ^ 32 → k < 32 → (bit_at (bit_and n (bit_not w32 (1 * 2 ^ k % 2 ^ 32))) q == 1) ≡ (not (q == k) && bit_at n q == 1)
clear_bit n k q n_fits within =
    and_not_bits n (1 * 2 ^ k % 2 ^ 32) q n_fits (one_fits k) ∙ (ap (λ one. bit_at n q == 1 && not one) (one_bit k q within) ∙ and_swap (bit_at n q == 1) (not (q == k)))

-- bit k stays below a greater width
pub set_lt : (n k w : ℕ) → k < w → w < 32 → n < 2 ^ w → bit_or n (1 * 2 ^ k % 2 ^ 32) < 2 ^ w
set_lt n k w below narrow fits =
    let power : 2 ^ k < 2 ^ w = pow-lt below in
    let word : 2 ^ w < 2 ^ 32 = pow-lt narrow in
    or_lt w n (1 * 2 ^ k % 2 ^ 32) fits (omega arith)

-- all of the first w
pub ones_bits : (w q : ℕ) → (bit_at (2 ^ w - 1) q == 1) ≡ nat_lt q w
ones_bits w q =
    elim (cases_lt q w) [
      | inl inside ↦ rw (bit_at_ones w q inside, lt-ltb q w inside) refl
      | inr above ↦ rw (bit_at_ones_above w q above, le-ltb q w above) refl
    ]

-- numbers by their sets
pub same_sets : (a b : ℕ) → ((q : ℕ) → (bit_at a q == 1) ≡ (bit_at b q == 1)) → a ≡ b
same_sets a b same = same_from_bits a b (λ q. same_test (bit_at a q) (bit_at b q) (bit_at-lt a q) (bit_at-lt b q) (same q))

pub empty_from_none : (n : ℕ) → ((q : ℕ) → (bit_at n q == 1) ≡ false) → n ≡ 0
empty_from_none n none = same_sets n 0 (λ q. none q ∙ sym (zero_bits q))

pub inside_from_none : (a b : ℕ) → ((q : ℕ) → (bit_at b q == 1 && not (bit_at a q == 1)) ≡ false) → bit_and a b ≡ b
inside_from_none a b none =
    same_from_bits (bit_and a b) b (λ q. bit_at_and a b q ∙ within_test (bit_at a q) (bit_at b q) (bit_at-lt a q) (bit_at-lt b q) (none q))

outside_none : (x y : Bool) → (x && y) ≡ y → (y && not x) ≡ false
outside_none true true same = refl
outside_none true false same = refl
outside_none false true same = sym same
outside_none false false same = refl

pub none_from_inside : (a b q : ℕ) → bit_and a b ≡ b → (bit_at b q == 1 && not (bit_at a q == 1)) ≡ false
none_from_inside a b q inside =
    outside_none (bit_at a q == 1) (bit_at b q == 1) (sym (and_bits a b q) ∙ ap (λ set. bit_at set q == 1) inside)

-- a mask that agrees with a test below 31, where neither has more
pub mask_bits : (mask : ℕ) (test : ℕ → Bool) (q : ℕ) → mask < 2 ^ 31 → agree_below (λ q. bit_at mask q == 1) test 31 ≡ true → (31 ≤ q → test q ≡ false) → (bit_at mask q == 1) ≡ test q
mask_bits mask test q fits agree above_none =
    elim (cases_lt q 31) [
      | inl inside ↦ agree_below_at (λ q. bit_at mask q == 1) test 31 q agree inside
      | inr above ↦ rw (bit_at_above mask 31 q fits above, above_none above) refl
    ]

-- a set within another, as the bits of the first that the second has
pub within_at : (g h q : ℕ) → bit_and g h ≡ g → (bit_at g q == 1) ≡ (bit_at g q == 1 && bit_at h q == 1)
within_at g h q inside = ap (λ set. bit_at set q == 1) (sym inside) ∙ and_bits g h q

within_from : (g h : ℕ) → ((q : ℕ) → (bit_at g q == 1) ≡ (bit_at g q == 1 && bit_at h q == 1)) → bit_and g h ≡ g
within_from g h each = same_sets (bit_and g h) g (λ q. and_bits g h q ∙ sym (each q))

either_within : (g h k m : Bool) → g ≡ (g && h) → k ≡ (k && m) → (g || k) ≡ ((g || k) && (h || m))
either_within true true k m first second = refl
either_within true false k m first second = absurd (true≢false first)
either_within false true true true first second = refl
either_within false false true true first second = refl
either_within false h true false first second = absurd (true≢false second)
either_within false h false m first second = refl

-- unions of sets within others
pub within_union : (g h k m : ℕ) → bit_and g h ≡ g → bit_and k m ≡ k → bit_and (bit_or g k) (bit_or h m) ≡ bit_or g k
within_union g h k m first second =
    within_from (bit_or g k) (bit_or h m) (λ q. rw (or_bits g k q, or_bits h m q)
    (either_within (bit_at g q == 1) (bit_at h q == 1) (bit_at k q == 1) (bit_at m q == 1) (within_at g h q first) (within_at k m q second)))

-- the same bits taken from both
both_within : (g h k : Bool) → g ≡ (g && h) → (g && k) ≡ ((g && k) && (h && k))
both_within true true true within = refl
both_within true true false within = refl
both_within true false k within = absurd (true≢false within)
both_within false h k within = refl

pub within_rest : (g h k : ℕ) → bit_and g h ≡ g → bit_and (bit_and g k) (bit_and h k) ≡ bit_and g k
within_rest g h k inside =
    within_from (bit_and g k) (bit_and h k) (λ q. rw (and_bits g k q, and_bits h k q)
    (both_within (bit_at g q == 1) (bit_at h q == 1) (bit_at k q == 1) (within_at g h q inside)))

more_within : (g h k : Bool) → g ≡ (g && h) → g ≡ (g && (h || k))
more_within true true k within = refl
more_within true false k within = absurd (true≢false within)
more_within false h k within = refl

-- a set within another is within all that is greater
pub within_more : (g h k : ℕ) → bit_and g h ≡ g → bit_and g (bit_or h k) ≡ g
within_more g h k inside =
    within_from g (bit_or h k) (λ q. rw (or_bits h k q) (more_within (bit_at g q == 1) (bit_at h q == 1) (bit_at k q == 1) (within_at g h q inside)))
