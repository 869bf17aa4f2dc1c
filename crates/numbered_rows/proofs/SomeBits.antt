-- Bits that are not empty have a bit.
use Rattle.std.proofs.Common.{◌≡◌, ◌∙◌, ◌⊎◌, refl, sym, ap, ℕ, zero, suc, ◌<◌, ◌^◌, Bool, true, false, ◌==◌, inl, inr, arith}
use Rattle.std.proofs.lemmas.Bool.{true≢false, and_from, and_parts, cases_eq, cases_lt, eq-eqb, eqb-true}
use Rattle.account_holdings.proofs.BitSets.{no_bit}
use Rattle.account_holdings.specs.Bits.{has_bit}
use Rattle.held_bits.specs.Bits.{AreWithin, are_none}
use Rattle.held_bits.specs.declared.bits.Bits.{Bits}
use Rattle.priv_sets.proofs.Bits.{empty_from_none, zero_bits}

-- a bit below a bound, or none there
bit_below : (set k : ℕ) → ((q : ℕ) × (has_bit set q ≡ true)) ⊎ ((q : ℕ) → q < k → has_bit set q ≡ false)
bit_below set zero = inr (λ q below. absurd (omega arith))
bit_below set (suc k) = elim (bit_below set k) [
  | inl found ↦ inl found
  | inr none ↦ by none (has_bit set k) refl
]
  where
    by : ((q : ℕ) → q < k → has_bit set q ≡ false) → (t : Bool) → has_bit set k ≡ t → ((q : ℕ) × (has_bit set q ≡ true)) ⊎ ((q : ℕ) → q < suc k → has_bit set q ≡ false)
    by none true is = inl (k, is)
    by none false is = inr (λ q below. elim (cases_eq q k) [
      | inl same ↦ ap (has_bit set) same ∙ is
      | inr other ↦ none q (omega arith)
    ])

empty : (set : ℕ) → set < 2 ^ 32 → ((q : ℕ) → q < 32 → has_bit set q ≡ false) → set ≡ 0
empty set fits none = empty_from_none set (λ q. elim (cases_lt q 32) [
  | inl below ↦ none q below
  | inr above ↦ no_bit set q fits above
])

-- granted or restricted
pub some_bit : (bits : Bits) → AreWithin bits → are_none bits ≡ false → (p : ℕ) × ((has_bit bits.granted p ≡ true) ⊎ (has_bit bits.restricted p ≡ true))
some_bit bits within some =
    elim (bit_below bits.granted 32) [
      | inl found ↦ (found.0, inl found.1)
      | inr no_grant ↦ elim (bit_below bits.restricted 32) [
        | inl found ↦ (found.0, inr found.1)
        | inr no_restriction ↦
            let first = empty bits.granted within.0 no_grant in
            let second = empty bits.restricted within.1 no_restriction in
            absurd (true≢false (sym (and_from (bits.granted == 0) (bits.restricted == 0) (eq-eqb bits.granted 0 first) (eq-eqb bits.restricted 0 second)) ∙ some))
      ]
    ]

zero_has_none : (q : ℕ) → has_bit 0 q ≡ true → ⊥
zero_has_none q is = absurd (true≢false (sym is ∙ zero_bits q))

-- who has a bit is not empty
pub some_from_granted : (bits : Bits) (q : ℕ) → has_bit bits.granted q ≡ true → are_none bits ≡ false
some_from_granted bits q is = by (are_none bits) refl
  where
    by : (t : Bool) → are_none bits ≡ t → t ≡ false
    by false some = refl
    by true none = absurd (zero_has_none q (ap (λ n. has_bit n q) (sym (eqb-true bits.granted 0 (and_parts (bits.granted == 0) (bits.restricted == 0) none).0)) ∙ is))

pub some_from_restricted : (bits : Bits) (q : ℕ) → has_bit bits.restricted q ≡ true → are_none bits ≡ false
some_from_restricted bits q is = by (are_none bits) refl
  where
    by : (t : Bool) → are_none bits ≡ t → t ≡ false
    by false some = refl
    by true none = absurd (zero_has_none q (ap (λ n. has_bit n q) (sym (eqb-true bits.restricted 0 (and_parts (bits.granted == 0) (bits.restricted == 0) none).1)) ∙ is))
