-- What entries say of a holder and a thing, for those who build on it.
use Rattle.std.proofs.Common.{◌≡◌, ◌≢◌, ◌∙◌, refl, sym, ap, ℕ, zero, suc, Bool, true, false, cond, ◌<◌, ◌+◌, ◌==◌, ◌&&◌, ◌||◌, nat_lt, List, [], ◌∷◌, length, get_or, if◌then◌else◌, inl, inr, arith}
use Rattle.std.specs.List.{All}
use Rattle.std.specs.Cmp.{IsEquivalence}
use Rattle.std.proofs.lemmas.Bool.{cases_Bool, eq-eqb, eqb-true, lt-ltb, ne_eqb, and_from, and_left, and_parts, and_right, false_from_ne_true, true≢false}
use Rattle.std.proofs.lemmas.List.Sums.{sum_by-cons}
use Rattle.held_bits.specs.declared.bits.Bits.{Bits}
use Rattle.held_bits.specs.Bits.{no_bits, are_none}
use Rattle.held_bits.specs.HeldBits.{Entry, IsSound, SetsBits, bits_at, has_thing, is_entry, is_on, uses_in}

module _ {K : Type 0} (eq : K → K → Bool) where
  -- a pair without an entry holds nothing
  pub bits_at_none : (es : List (Entry K)) (h : ℕ) (thing : K) → All (λ e. is_entry eq h thing e ≡ false) es → bits_at eq es h thing ≡ no_bits
  bits_at_none [] h thing none = refl
  bits_at_none (e ∷ es) h thing none =
      ap (λ (b : Bool). if b then e.bits else bits_at eq es h thing) (none 0 e (omega arith))
      ∙ bits_at_none es h thing (λ k d below. none (suc k) d (omega arith))

  -- the first entry of a pair says what it holds
  pub bits_at_first : (es : List (Entry K)) (h : ℕ) (thing : K) (i : ℕ) (d : Entry K) → i < length es → is_entry eq h thing (get_or es i d) ≡ true →
      ((k : ℕ) → k < i → is_entry eq h thing (get_or es k d) ≡ false) → bits_at eq es h thing ≡ (get_or es i d).bits
  bits_at_first [] h thing i d below is none = absurd (omega arith)
  bits_at_first (e ∷ es) h thing zero d below is none = ap (λ (b : Bool). if b then e.bits else bits_at eq es h thing) is
  bits_at_first (e ∷ es) h thing (suc i) d below is none =
      ap (λ (b : Bool). if b then e.bits else bits_at eq es h thing) (none 0 (omega arith))
      ∙ bits_at_first es h thing i d (omega arith) is (λ k early. none (suc k) (omega arith))

  -- a pair that holds something has an entry, which says it
  pub entry_of_bits : (es : List (Entry K)) (h : ℕ) (thing : K) → are_none (bits_at eq es h thing) ≡ false →
      (i : ℕ) × (i < length es) × ((d : Entry K) → is_entry eq h thing (get_or es i d) ≡ true) × ((d : Entry K) → (get_or es i d).bits ≡ bits_at eq es h thing)
  entry_of_bits [] h thing some = absurd (true≢false some)
  entry_of_bits (e ∷ es) h thing some =
      elim (cases_Bool (is_entry eq h thing e)) [
        | inl is ↦ (0, omega arith, (λ d. is), (λ d. sym (ap (λ (b : Bool). if b then e.bits else bits_at eq es h thing) is)))
        | inr not_is ↦
            let rest : bits_at eq (e ∷ es) h thing ≡ bits_at eq es h thing = ap (λ (b : Bool). if b then e.bits else bits_at eq es h thing) not_is in
            let there = entry_of_bits es h thing (sym (ap are_none rest) ∙ some) in
            (suc there.0, omega (arith, there.1), there.2, (λ d. there.3 d ∙ sym rest))
      ]

  -- some entry is on a thing where more than none are
  pub has_thing_counted : (es : List (Entry K)) (thing : K) → has_thing eq es thing ≡ nat_lt 0 (uses_in eq es thing)
  has_thing_counted [] thing = refl
  has_thing_counted (e ∷ es) thing =
      ap (λ (b : Bool). eq thing e.thing || b) (has_thing_counted es thing)
      ∙ step (eq thing e.thing) (uses_in eq es thing) ∙ ap (nat_lt 0) (sym (sum_by-cons (λ x. cond (is_on eq thing x) 1 0) e es))
    where
      step : (b : Bool) (x : ℕ) → (b || nat_lt 0 x) ≡ nat_lt 0 (cond b 1 0 + x)
      step true x = sym (lt-ltb 0 (1 + x) (omega arith))
      step false x = ap (nat_lt 0) (omega arith)

  -- what is set for another holder or another thing changes nothing
  pub sets_not_holder : (old new : List (Entry K)) (holder : ℕ) (thing : K) (bits : Bits) → SetsBits eq old new holder thing bits →
      (h : ℕ) (k : K) → h ≢ holder → bits_at eq new h k ≡ bits_at eq old h k
  sets_not_holder old new holder thing bits sets h k apart =
      sets h k ∙ ap (λ (b : Bool). if b then bits else bits_at eq old h k) (and_left (h == holder) (eq k thing) (ne_eqb h holder apart))

  pub sets_not_thing : (old new : List (Entry K)) (holder : ℕ) (thing : K) (bits : Bits) → SetsBits eq old new holder thing bits →
      (h : ℕ) (k : K) → eq k thing ≡ false → bits_at eq new h k ≡ bits_at eq old h k
  sets_not_thing old new holder thing bits sets h k apart =
      sets h k ∙ ap (λ (b : Bool). if b then bits else bits_at eq old h k) (and_right (h == holder) (eq k thing) apart)

  module _ (laws : IsEquivalence eq) where
    -- equal things hold the same
    pub bits_at_equal : (es : List (Entry K)) (h : ℕ) (one other : K) → eq one other ≡ true → bits_at eq es h one ≡ bits_at eq es h other
    bits_at_equal [] h one other same = refl
    bits_at_equal (e ∷ es) h one other same =
        ap (λ (b : Bool). if (h == e.holder) && b then e.bits else bits_at eq es h one) (laws.congr one other e.thing same)
        ∙ ap (λ (b : Bits). if is_entry eq h other e then e.bits else b) (bits_at_equal es h one other same)

    -- what is set is what is held
    pub sets_here : (old new : List (Entry K)) (holder : ℕ) (thing : K) (bits : Bits) → SetsBits eq old new holder thing bits →
        bits_at eq new holder thing ≡ bits
    sets_here old new holder thing bits sets =
        sets holder thing
        ∙ ap (λ (b : Bool). if b then bits else bits_at eq old holder thing)
        (and_from (holder == holder) (eq thing thing) (eq-eqb holder holder refl) (laws.refl thing))

    -- an entry says what its holder holds on its thing
    pub bits_of_entry : (es : List (Entry K)) → IsSound eq es → (i : ℕ) (d : Entry K) → i < length es →
        bits_at eq es (get_or es i d).holder (get_or es i d).thing ≡ (get_or es i d).bits
    bits_of_entry es sound i d below =
        bits_at_first es (get_or es i d).holder (get_or es i d).thing i d below
        (and_from ((get_or es i d).holder == (get_or es i d).holder) (eq (get_or es i d).thing (get_or es i d).thing)
        (eq-eqb (get_or es i d).holder (get_or es i d).holder refl) (laws.refl (get_or es i d).thing))
        (λ k early. apart (get_or es k d) (get_or es i d) (sound.once k i d early below))
      where
        apart : (one other : Entry K) → is_entry eq one.holder one.thing other ≡ false → is_entry eq other.holder other.thing one ≡ false
        apart one other differ =
            false_from_ne_true (is_entry eq other.holder other.thing one) (λ is.
            let parts = and_parts (other.holder == one.holder) (eq other.thing one.thing) is in
            true≢false (sym (and_from (one.holder == other.holder) (eq one.thing other.thing)
            (eq-eqb one.holder other.holder (sym (eqb-true other.holder one.holder parts.0))) (laws.symm one.thing other.thing ∙ parts.1)) ∙ differ))
