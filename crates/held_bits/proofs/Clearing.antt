-- A holder's entries are taken away one after the other.
use Rattle.std.proofs.Common.{◌≡◌, ◌≢◌, ◌∙◌, refl, sym, ap, ℕ, Bool, true, false, ◌<◌, ◌≤◌, ◌+◌, ◌==◌, ◌&&◌, List, [], ◌∷◌, length, get_or, slice_get, Some, if◌then◌else◌, inl, inr, arith}
use Rattle.std.specs.List.{All}
use Rattle.std.specs.List.Sorted.{IsNonDecreasingBy}
use Rattle.std.specs.Cmp.{IsEquivalence}
use Rattle.std.proofs.lemmas.Bool.{cases_lt, eq-eqb, eqb-true, ne_eqb, and_left}
use Rattle.std.proofs.lemmas.Option.{slice_get-get_or}
use Rattle.std.proofs.lemmas.List.Folds.{list_any_at}
use Rattle.held_bits.specs.declared.bits.Bits.{Bits}
use Rattle.held_bits.specs.Bits.{no_bits, record_count}
use Rattle.held_bits.specs.Clearing.{HoldsLess, IsAt}
use Rattle.held_bits.specs.HeldBits.{ClearsHolder, Entry, Held, IsFirstOf, IsSound, ReplacesAt, bits_at, has_thing, is_on, uses_in}
use Rattle.held_bits.proofs.Readings.{bits_at_equal, bits_at_none, bits_of_entry}

-- where the holder's first place has another's entry, the holder has none
pub none_of : {K : Type 0} (entries : List (Entry K)) (holder place : ℕ) → IsFirstOf entries holder place → IsNonDecreasingBy (λ entry. entry.holder) entries →
    ((d : Entry K) → place < length entries → (get_or entries place d).holder ≢ holder) → All (λ entry. (holder == entry.holder) ≡ false) entries
none_of entries holder place first ordered other = λ k d below.
    ne_eqb holder (get_or entries k d).holder (λ e.
    elim (cases_lt k place) [
      | inl early ↦ omega (arith, e, first.before k d (omega arith) early)
      | inr late ↦
          let there : place < length entries = omega arith in
          other d there (omega (arith, e, first.after place d (omega arith) there, ordered place k d late below))
    ])

-- an entry of a list that has one
pub some_entry : {K : Type 0} (entries : List (Entry K)) (place : ℕ) → place < length entries → Entry K
some_entry [] place below = absurd (omega arith)
some_entry (e ∷ es) place below = e

-- at first nothing is taken
pub holds_less_first : {K : Type 0} (eq : K → K → Bool) (held : Held K) (holder : ℕ) → HoldsLess eq held held holder
holds_less_first eq held holder = record {
  sets = λ h k apart. refl;
  uses = λ k. refl;
  things = omega arith;
  record_room = refl;
  thing_room = omega arith;
}

module _ {K : Type 0} (eq : K → K → Bool) (laws : IsEquivalence eq) (old now next : Held K) (holder place : ℕ) (less : HoldsLess eq old now holder)
    (sound : IsSound eq now.entries) (here : IsAt now.entries holder place) (replaced : ReplacesAt eq now.entries next.entries place no_bits)
    (room : next.record_room + length next.entries ≡ now.record_room + length now.entries) (thing_room : now.thing_room ≤ next.thing_room) (d : Entry K) where
  abbrev gone : Entry K
  gone = get_or now.entries place d

  stood : slice_get now.entries place ≡ Some gone
  stood = slice_get-get_or now.entries place d here.inside

  -- what the holder holds on a thing is what went, or stays
  held_next : (k : K) → bits_at eq next.entries holder k ≡ (if eq k gone.thing then no_bits else bits_at eq now.entries holder k)
  held_next k =
      replaced.sets gone stood holder k
      ∙ ap (λ (b : Bool). if b && eq k gone.thing then no_bits else bits_at eq now.entries holder k) (eq-eqb holder gone.holder (sym (here.holder_is d)))

  held_now : (k : K) → eq k gone.thing ≡ true → bits_at eq now.entries holder k ≡ gone.bits
  held_now k same =
      bits_at_equal eq laws now.entries holder k gone.thing same
      ∙ ap (λ (h : ℕ). bits_at eq now.entries h gone.thing) (sym (here.holder_is d))
      ∙ bits_of_entry eq laws now.entries sound place d here.inside

  counted : (b : Bool) (n m w x : ℕ) (before after : Bits) → n + (if b then record_count gone.bits else 0) ≡ m + (if b then record_count no_bits else 0) →
      m + w ≡ x + record_count before → (b ≡ true → before ≡ gone.bits) → after ≡ (if b then no_bits else before) → n + w ≡ x + record_count after
  counted true n m w x before after step sum is after_is = omega (arith, step, sum, ap record_count (is refl), ap record_count after_is)
  counted false n m w x before after step sum is after_is = omega (arith, step, sum, ap record_count after_is)

  at_most_one : (b : Bool) → (if b then 1 else 0) ≤ 1
  at_most_one true = omega arith
  at_most_one false = omega arith

  pub holds_less_next : HoldsLess eq old next holder
  holds_less_next = record {
    sets = λ h k apart.
        replaced.sets gone stood h k
        ∙ ap (λ (b : Bool). if b then no_bits else bits_at eq now.entries h k)
        (and_left (h == gone.holder) (eq k gone.thing) (ap (λ (m : ℕ). h == m) (here.holder_is d) ∙ apart))
        ∙ less.sets h k apart;
    uses = λ k.
        counted (eq k gone.thing) (uses_in eq next.entries k) (uses_in eq now.entries k) (record_count (bits_at eq old.entries holder k))
        (uses_in eq old.entries k) (bits_at eq now.entries holder k) (bits_at eq next.entries holder k) (replaced.uses gone stood k) (less.uses k)
        (held_now k) (held_next k);
    things =
        let known = list_any_at (is_on eq gone.thing) now.entries place d here.inside (laws.refl gone.thing) in
        omega (
          arith,
          less.things,
          replaced.things gone stood,
          at_most_one (has_thing eq next.entries gone.thing),
          ap {B = ℕ} (λ (b : Bool). if b then 1 else 0) known,
        );
    record_room = room ∙ less.record_room;
    thing_room = omega (arith, thing_room, less.thing_room);
  }

-- where no entry is the holder's, it holds nothing
pub cleared : {K : Type 0} (eq : K → K → Bool) (old new : Held K) (holder : ℕ) → HoldsLess eq old new holder →
    All (λ entry. (holder == entry.holder) ≡ false) new.entries → ClearsHolder eq old.entries new.entries holder
cleared {K} eq old new holder less none = record {
  sets = λ h k. by h k (h == holder) refl;
  uses = λ k. less.uses k ∙ ap (λ (b : Bits). uses_in eq old.entries k + record_count b) (nothing k) ∙ omega arith;
  things = less.things;
}
  where
    nothing : (k : K) → bits_at eq new.entries holder k ≡ no_bits
    nothing k = bits_at_none eq new.entries holder k (λ i d below. and_left (holder == (get_or new.entries i d).holder) (eq k (get_or new.entries i d).thing) (none i d below))

    by : (h : ℕ) (k : K) (b : Bool) → (h == holder) ≡ b → bits_at eq new.entries h k ≡ (if b then no_bits else bits_at eq old.entries h k)
    by h k true same = ap (λ (m : ℕ). bits_at eq new.entries m k) (eqb-true h holder same) ∙ nothing k
    by h k false apart = less.sets h k apart
