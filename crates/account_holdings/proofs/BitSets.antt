-- A bit more and a bit less.
use Rattle.std.proofs.Common.{◌≡◌, ◌∙◌, refl, sym, ap, ℕ, ◌<◌, ◌≤◌, ◌%◌, ◌*◌, ◌^◌, ◌==◌, ◌||◌, ◌&&◌, Bool, true, false, not, bit_or, bit_and, inl, inr, arith}
use Rattle.std.proofs.lemmas.Bool.{cases_eq, eq-eqb, ne_eqb}
use Rattle.std.proofs.Math.Bool.{and-true}
use Rattle.std.proofs.lemmas.Nat.Bits.{bit_at_above}
use Rattle.std.specs.Int.{bit_at, bit_not, w32}
use Rattle.account_holdings.specs.Bits.{has_bit}
use Rattle.priv_sets.proofs.Bits.{clear_bit, set_bit}

or_swap : (x y : Bool) → (x || y) ≡ (y || x)
or_swap true true = refl
or_swap true false = refl
or_swap false true = refl
or_swap false false = refl

and_swap : (x y : Bool) → (x && y) ≡ (y && x)
and_swap true true = refl
and_swap true false = refl
and_swap false true = refl
and_swap false false = refl

pub bit_comes : (set number q : ℕ) → number < 32 → has_bit (bit_or set (1 * 2 ^ number % 2 ^ 32)) q ≡ (has_bit set q || q == number)
bit_comes set number q within = set_bit set number q within ∙ or_swap (q == number) (has_bit set q)

pub bit_goes : (set number q : ℕ) → set < 2 ^ 32 → number < 32 → has_bit (bit_and set (bit_not w32 (1 * 2 ^ number % 2 ^ 32))) q ≡ (has_bit set q && not (q == number))
bit_goes set number q fits within = clear_bit set number q fits within ∙ and_swap (not (q == number)) (has_bit set q)

-- no bit is set above
pub no_bit : (set number : ℕ) → set < 2 ^ 32 → 32 ≤ number → has_bit set number ≡ false
no_bit set number fits above = ap (λ bit. bit == 1) (bit_at_above set 32 number fits above)

pub bit_stays : (set number q : ℕ) → set < 2 ^ 32 → 32 ≤ number → has_bit set q ≡ (has_bit set q && not (q == number))
bit_stays set number q fits above =
    elim (cases_eq q number) [
      | inl same ↦ rw (eq-eqb q number same, same) (no_bit set number fits above ∙ sym (never (has_bit set number)))
      | inr other ↦ rw (ne_eqb q number other) (sym (and-true (has_bit set q)))
    ]
  where
    never : (x : Bool) → (x && false) ≡ false
    never true = refl
    never false = refl
