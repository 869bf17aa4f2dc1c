-- What the bits of a set are.
use Rattle.std.proofs.Common.{◌≡◌, ◌∙◌, ap, sym, refl, ℕ, zero, suc, ◌+◌, ◌-◌, ◌*◌, ◌<◌, ◌≤◌, ◌^◌, ◌==◌, nat_lt, Bool, true, false, cond, not, ◌&&◌, inl, inr, true≢false, arith}
use Rattle.std.proofs.lemmas.Bool.{and_parts, cases_eq, cases_lt, eq-eqb, eqb-true, le-ltb, lt-ltb, ltb-true, not-true}
use Rattle.std.proofs.lemmas.Nat.Bits.{bit_at-zero, bit_at_above, bit_at_cat_high, bit_at_cat_low}
use Rattle.std.specs.Int.{bit_at}
use Rattle.acl_stmt.specs.Requests.{all_below}
use Rattle.listed_privileges.specs.Sets.{bits_below, some_below}

-- ---- numbers below a limit

pub below_at : (limit n : ℕ) (test : ℕ → Bool) → all_below limit test ≡ true → n < limit → test n ≡ true
below_at zero n test all within = absurd (omega arith)
below_at (suc limit) n test all within =
    let parts = and_parts (all_below limit test) (test limit) all in
    elim (cases_eq n limit) [
      | inl same ↦ ap test same ∙ parts.1
      | inr other ↦ below_at limit n test parts.0 (omega arith)
    ]

pub all_from : (limit : ℕ) (test : ℕ → Bool) → ((n : ℕ) → n < limit → test n ≡ true) → all_below limit test ≡ true
all_from zero test each = refl
all_from (suc limit) test each =
    let first : all_below limit test ≡ true = all_from limit test (λ n below. each n (omega arith)) in
    rw first (each limit (omega arith))

pub some_below_from : (limit p : ℕ) (test : ℕ → Bool) → p < limit → test p ≡ true → some_below limit test ≡ true
some_below_from limit p test within passes = by (all_below limit (λ n. not (test n))) refl
  where
    by : (t : Bool) → all_below limit (λ n. not (test n)) ≡ t → not t ≡ true
    by false some = refl
    by true none = absurd (true≢false (sym passes ∙ not-true (test p) (below_at limit p (λ n. not (test n)) none within)))

pub none_below : (limit p : ℕ) (test : ℕ → Bool) → some_below limit test ≡ false → p < limit → test p ≡ false
none_below limit p test none within = by (test p) refl
  where
    by : (t : Bool) → test p ≡ t → t ≡ false
    by false fails = refl
    by true passes = sym (some_below_from limit p test within passes) ∙ none

-- ---- bits

power_below : (b : Bool) (power : ℕ) → cond b power 0 ≤ power
power_below true power = omega arith
power_below false power = omega arith

pub bits_below-lt : (limit : ℕ) (test : ℕ → Bool) → bits_below limit test < 2 ^ limit
unfolding bits_below
bits_below-lt zero test = omega arith
bits_below-lt (suc limit) test = doubled (bits_below limit test) (cond (test limit) (2 ^ limit) 0) limit (bits_below-lt limit test) (power_below (test limit) (2 ^ limit))
  where
    doubled : (b c n : ℕ) → b < 2 ^ n → c ≤ 2 ^ n → b + c < 2 ^ suc n
    doubled b c n less most = omega arith

-- the bits of a sum with a greater power
sum_bit : (low limit p : ℕ) (b t u : Bool) → low < 2 ^ limit → nat_lt p limit ≡ t → (p == limit) ≡ u
    → (bit_at (low + cond b (2 ^ limit) 0) p == 1) ≡ cond t (bit_at low p == 1) (u && b)
sum_bit low limit p true true u less below same =
    let sum : low + 2 ^ limit ≡ 1 * 2 ^ limit + low = omega arith in
    ap (λ n. bit_at n p == 1) sum ∙ ap (λ bit. bit == 1) (bit_at_cat_low 1 limit low p (ltb-true p limit below))
sum_bit low limit p false true u less below same = let sum : low + 0 ≡ low = omega arith in ap (λ n. bit_at n p == 1) sum
sum_bit low limit p false false u less above same =
    let sum : low + 0 ≡ low = omega arith in
    ap (λ n. bit_at n p == 1) sum ∙ ap (λ bit. bit == 1) (bit_at_above low limit p less (from_false p limit above)) ∙ sym (none u)
  where
    from_false : (m n : ℕ) → nat_lt m n ≡ false → n ≤ m
    from_false m n is = elim (cases_lt m n) [ inl less_than ↦ absurd (true≢false (sym (lt-ltb m n less_than) ∙ is)) | inr least ↦ least ]

    none : (x : Bool) → (x && false) ≡ false
    none true = refl
    none false = refl
sum_bit low limit p true false true less above same =
    let sum : low + 2 ^ limit ≡ 1 * 2 ^ limit + low = omega arith in
    let equal : p ≡ limit = eqb-true p limit same in
    let place : p - limit ≡ 0 = omega arith in
    ap (λ n. bit_at n p == 1) sum ∙ ap (λ bit. bit == 1) (bit_at_cat_high 1 limit low p less (omega arith)) ∙ ap (λ n. bit_at 1 n == 1) place
sum_bit low limit p true false false less above same =
    let sum : low + 2 ^ limit ≡ 1 * 2 ^ limit + low = omega arith in
    let far = beyond p limit above same in
    ap (λ n. bit_at n p == 1) sum ∙ ap (λ bit. bit == 1) (bit_at_cat_high 1 limit low p less (omega arith)) ∙ ap (λ bit. bit == 1) (bit_at_above 1 1 (p - limit) (omega arith) (omega arith))
  where
    beyond : (m n : ℕ) → nat_lt m n ≡ false → (m == n) ≡ false → n < m
    beyond m n least apart = elim (cases_lt n m) [
      | inl less_than ↦ less_than
      | inr at_least ↦ elim (cases_eq m n) [
        | inl equal ↦ absurd (true≢false (sym (eq-eqb m n equal) ∙ apart))
        | inr other ↦ let less_than : m < n = omega arith in absurd (true≢false (sym (lt-ltb m n less_than) ∙ least))
      ]
    ]

-- a number is in the set exactly where it is below the limit and passes the test
pub bits_below-at : (limit p : ℕ) (test : ℕ → Bool) → (bit_at (bits_below limit test) p == 1) ≡ (nat_lt p limit && test p)
unfolding bits_below
bits_below-at zero p test = ap (λ bit. bit == 1) (bit_at-zero p) ∙ sym (ap (λ t. t && test p) (le-ltb p 0 (omega arith)))
bits_below-at (suc limit) p test =
    sum_bit (bits_below limit test) limit p (test limit) (nat_lt p limit) (p == limit) (bits_below-lt limit test) refl refl
    ∙ ap (λ x. cond (nat_lt p limit) x (p == limit && test limit)) (bits_below-at limit p test)
    ∙ joined (nat_lt p limit) (p == limit) refl refl
  where
    joined : (t u : Bool) → nat_lt p limit ≡ t → (p == limit) ≡ u → cond t (t && test p) (u && test limit) ≡ (nat_lt p (suc limit) && test p)
    joined true u below same = let less : p < limit = ltb-true p limit below in sym (ap (λ v. v && test p) (lt-ltb p (suc limit) (omega arith)))
    joined false true least same =
        let equal : p ≡ limit = eqb-true p limit same in
        ap test (sym equal) ∙ sym (ap (λ v. v && test p) (lt-ltb p (suc limit) (omega arith)))
    joined false false least apart = sym (ap (λ v. v && test p) (le-ltb p (suc limit) (far p limit least apart)))
      where
        far : (m n : ℕ) → nat_lt m n ≡ false → (m == n) ≡ false → suc n ≤ m
        far m n at_least other = elim (cases_lt n m) [
          | inl less_than ↦ omega arith
          | inr most ↦ elim (cases_eq m n) [
            | inl equal ↦ absurd (true≢false (sym (eq-eqb m n equal) ∙ other))
            | inr unequal ↦ let less_than : m < n = omega arith in absurd (true≢false (sym (lt-ltb m n less_than) ∙ at_least))
          ]
        ]

pub bits_within : (limit p : ℕ) (test : ℕ → Bool) → p < limit → (bit_at (bits_below limit test) p == 1) ≡ test p
bits_within limit p test within = bits_below-at limit p test ∙ ap (λ t. t && test p) (lt-ltb p limit within)

-- where the test holds nowhere from the limit on, the set is the test
pub bits_are : (limit p : ℕ) (test : ℕ → Bool) → (test p ≡ true → p < limit) → (bit_at (bits_below limit test) p == 1) ≡ test p
bits_are limit p test bounded = bits_below-at limit p test ∙ by (test p) refl
  where
    by : (t : Bool) → test p ≡ t → (nat_lt p limit && t) ≡ t
    by true passes = ap (λ u. u && true) (lt-ltb p limit (bounded passes))
    by false fails = none (nat_lt p limit)
      where
        none : (x : Bool) → (x && false) ≡ false
        none true = refl
        none false = refl

-- a set with a member is not empty
pub some_bits : (limit : ℕ) (test : ℕ → Bool) → some_below limit test ≡ true → (bits_below limit test == 0) ≡ false
some_bits limit test some = by (bits_below limit test == 0) refl
  where
    empty : bits_below limit test ≡ 0 → all_below limit (λ n. not (test n)) ≡ true
    empty is = all_from limit (λ n. not (test n)) (λ n within.
        ap not (sym (bits_within limit n test within) ∙ ap (λ bits. bit_at bits n == 1) is ∙ ap (λ bit. bit == 1) (bit_at-zero n)))

    by : (t : Bool) → (bits_below limit test == 0) ≡ t → t ≡ false
    by false is = refl
    by true is = absurd (true≢false (sym some ∙ ap not (empty (eqb-true (bits_below limit test) 0 is))))
