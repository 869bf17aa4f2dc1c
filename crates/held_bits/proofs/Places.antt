-- A write of bits to the entry at a place.
use Rattle.std.proofs.Common.{◌≡◌, ◌∙◌, refl, sym, ap, subst, ℕ, Bool, true, false, ◌<◌, ◌≤◌, ◌+◌, ◌-◌, ◌==◌, ◌&&◌, List, length, get_or, slice_get, min, Option, None, Some, is_some, if◌then◌else◌, arith}
use Rattle.std.specs.Cmp.{IsEquivalence}
use Rattle.std.proofs.lemmas.Bool.{true≢false}
use Rattle.std.proofs.lemmas.List.{get_or_read}
use Rattle.std.proofs.lemmas.Option.{get_or_from_slice_get}
use Rattle.numbered_names.specs.Numbered.{name_at, is_name, HasEachOnce}
use Rattle.held_bits.specs.declared.bits.Bits.{Bits}
use Rattle.held_bits.specs.declared.record.Record.{Record}
use Rattle.held_bits.specs.Bits.{are_none, record_count}
use Rattle.held_bits.specs.HeldBits.{CountsUses, Entry, ReplacesAt, SetsBits, bits_at}
use Rattle.held_bits.specs.Records.{IsHeld, bits_in, entries_of, record_limit}
use Rattle.held_bits.specs.Written.{IsWritten}
use Rattle.held_bits.proofs.Tables.{bits_found, no_record}
use Rattle.held_bits.proofs.Writes.{some_counted}
use Rattle.held_bits.proofs.Entries.{IsEntryOf, bits_known, entry_at, held_counted}
use Rattle.held_bits.proofs.Changes.{held_named, used_within, released_held, sets_released, count_released, uses_released, things_released, room_released}

some_name : {K : Type 0} (o : Option K) → is_some o ≡ true → (k : K) × (o ≡ Some k)
some_name None is = absurd (true≢false (sym is))
some_name (Some k) is = (k, refl)

module _ {K : Type 0} (eq : K → K → Bool) (names : List (Option K)) (rs : List Record) (us : List ℕ) (held : IsHeld names rs us)
    (place : ℕ) (r : Record) (within : place < length rs) (read : r ≡ get_or rs place r) where
  at : (d : Record) → get_or rs place d ≡ r
  at d = sym (get_or_read rs place r within read d)

  bits_are : bits_in rs r.holder r.thing ≡ r.bits
  bits_are =
      bits_found rs r.holder r.thing place held.table
      (record { inside = within; holder_is = λ d. ap (λ (y : Record). y.holder) (at d); thing_is = λ d. ap (λ (y : Record). y.thing) (at d) }) no_record
      ∙ ap (λ (y : Record). y.bits) (at no_record)

  -- the entry at a place says something
  pub at_some : are_none (bits_in rs r.holder r.thing) ≡ false
  at_some =
      ap are_none bits_are ∙ sym (ap (λ (y : Record). are_none y.bits) (at no_record)) ∙ held.table.some place no_record within

  pub at_within : r.thing < length us
  at_within = used_within us r.thing (omega (arith, held.uses_are r.thing, held_counted rs r.holder r.thing at_some))

  module _ (laws : IsEquivalence eq) (after : List (Option K)) (more : List Record) (more_us : List ℕ) (once : HasEachOnce eq names) (bits : Bits)
      (written : IsWritten rs more us more_us r.holder r.thing bits) (same_length : length after ≡ length names)
      (released : (n : ℕ) → name_at after n ≡ (if (n == r.thing) && (get_or more_us r.thing 0 == 0) then None else name_at names n)) where
    is_thing : (thing : K) → name_at names r.thing ≡ Some thing → is_name eq thing (name_at names r.thing) ≡ true
    is_thing thing name = ap (is_name eq thing) name ∙ laws.refl thing

    known : (thing : K) → name_at names r.thing ≡ Some thing → bits_at eq (entries_of names rs) r.holder thing ≡ bits_in rs r.holder r.thing
    known thing name = bits_known eq laws names once rs r.holder r.thing thing (is_thing thing name)

    keeps : (thing : K) → name_at names r.thing ≡ Some thing → are_none bits ≡ false → are_none (bits_at eq (entries_of names rs) r.holder thing) ≡ false
    keeps thing name some = ap are_none (known thing name) ∙ at_some

    its_name : (k : K) × (name_at names r.thing ≡ Some k)
    its_name = some_name (name_at names r.thing) ((held_named eq names rs us held).named r.thing (held_counted rs r.holder r.thing at_some))

    pub at_held : IsHeld after more more_us
    at_held =
        released_held eq laws names after rs more us more_us held once r.holder r.thing its_name.0 bits (is_thing its_name.0 its_name.1)
        (keeps its_name.0 its_name.1) written same_length released

    pub at_count : length (entries_of after more) + 1 ≡ length (entries_of names rs) + record_count bits
    at_count =
        omega (
          arith,
          some_counted (bits_at eq (entries_of names rs) r.holder its_name.0) (ap are_none (known its_name.0 its_name.1) ∙ at_some),
          count_released eq laws names after rs more us more_us held once r.holder r.thing its_name.0 bits (is_thing its_name.0 its_name.1)
              (keeps its_name.0 its_name.1) written same_length released,
        )

    pub at_room : (capacity : ℕ) → length rs ≤ capacity → length more ≤ capacity →
        (min record_limit capacity - length more) + length (entries_of after more) ≡ (min record_limit capacity - length rs) + length (entries_of names rs)
    at_room =
        room_released eq laws names after rs more us more_us held once r.holder r.thing its_name.0 bits (is_thing its_name.0 its_name.1)
        (keeps its_name.0 its_name.1) written same_length released

    entry_there : (entry : Entry K) → slice_get (entries_of names rs) place ≡ Some entry → IsEntryOf names r entry
    entry_there entry there =
        subst (λ (y : Record). IsEntryOf names y entry) (at no_record)
        (subst (λ (x : Entry K). IsEntryOf names (get_or rs place no_record) x) (get_or_from_slice_get (entries_of names rs) place entry entry there)
        (entry_at names rs (held_named eq names rs us held) place entry no_record within))

    -- what is written is written to the entry at the place
    pub at_replaced : ReplacesAt eq (entries_of names rs) (entries_of after more) place bits
    at_replaced = record {
      sets = λ entry there.
          let e = entry_there entry there in
          subst (λ h. SetsBits eq (entries_of names rs) (entries_of after more) h entry.thing bits) (sym e.holder)
          (sets_released eq laws names after rs more us more_us held once r.holder r.thing entry.thing bits (is_thing entry.thing e.name)
          (keeps entry.thing e.name) written same_length released);
      uses = λ entry there.
          let e = entry_there entry there in
          subst (λ b. CountsUses eq (entries_of names rs) (entries_of after more) entry.thing b bits) (known entry.thing e.name ∙ bits_are ∙ sym e.bits)
          (uses_released eq laws names after rs more us more_us held once r.holder r.thing entry.thing bits (is_thing entry.thing e.name)
          (keeps entry.thing e.name) written same_length released);
      things = λ entry there.
          let e = entry_there entry there in
          things_released eq laws names after rs more us more_us held once r.holder r.thing entry.thing bits (is_thing entry.thing e.name)
          (keeps entry.thing e.name) written same_length released;
    }
