use Rattle.std.proofs.Common.{◌≡◌, ℕ, ◌<◌, min, bit_and, eq-eqb, ap, sym, ◌∙◌, arith}
use borrow.Author.Tests.{eqb-true}
use Rattle.std.specs.Int.{bit_at}
use Rattle.std.proofs.lemmas.Nat.Bits.{bit_at_and, bit_at-lt, same_from_bits}
use Rattle.mask_lanes.proofs.count.contains_all.Goals as goal

-- where the bits in common are the mask, the word has each of its bits
from_equal : (word mask bit : ℕ) → bit_and word mask ≡ mask → bit_at mask bit ≡ 1 → bit_at word bit ≡ 1
from_equal word mask bit equal is =
    let both = sym (bit_at_and word mask bit) ∙ ap (λ n. bit_at n bit) equal in
    let lt = bit_at-lt word bit in
    omega arith

-- of two bits, where the second is not set without the first
lesser_bit : (first second : ℕ) → second < 2 → (second ≡ 1 → first ≡ 1) → min first second ≡ second
lesser_bit first second lt has = grind arith

-- and the other way round
to_equal : (word mask : ℕ) → ((bit : ℕ) → bit_at mask bit ≡ 1 → bit_at word bit ≡ 1) → bit_and word mask ≡ mask
to_equal word mask has =
    same_from_bits (bit_and word mask) mask
    (λ bit. bit_at_and word mask bit ∙ lesser_bit (bit_at word bit) (bit_at mask bit) (bit_at-lt mask bit) (has bit))

pub returns-clause-bits : goal.returns-clause-bits
returns-clause-bits c = (
  λ is bit. from_equal c.args.word c.args.mask bit (eqb-true _ _ is),
  λ has. eq-eqb _ _ (to_equal c.args.word c.args.mask has),
)
