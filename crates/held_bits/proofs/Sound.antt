-- The entries are as sound as the records.
use Rattle.std.proofs.Common.{◌≡◌, ◌∙◌, sym, ap, ℕ, Bool, ◌<◌, ◌≤◌, ◌+◌, ◌*◌, ◌^◌, ◌==◌, List, length, get_or, slice_get, Option, Some, count_by, is_some, nat_lt, arith}
use Rattle.std.specs.Cmp.{IsEquivalence}
use Rattle.std.proofs.lemmas.Bool.{eqb-true, and_parts, false_from_ne_true}
use Rattle.std.proofs.lemmas.Option.{slice_get-get_or, same_Some}
use Rattle.numbered_names.specs.Numbered.{name_at, is_name, HasEachOnce, IsListOf}
use Rattle.held_bits.specs.declared.record.Record.{Record}
use Rattle.held_bits.specs.Bits.{are_none}
use Rattle.held_bits.specs.HeldBits.{AreThings, Entry, IsFirstOf, IsSound, is_entry, thing_count}
use Rattle.held_bits.specs.Records.{IsHeld, entries_of, number_uses, rank}
use Rattle.held_bits.proofs.Tables.{no_record, nondecreasing}
use Rattle.held_bits.proofs.Entries.{IsEntryOf, any_known, entry_at}
use Rattle.held_bits.proofs.Things.{any_used, name_within, names_pass, numbers_used, things_known}
use Rattle.held_bits.proofs.Changes.{held_named, held_length}

module _ {K : Type 0} (eq : K → K → Bool) (names : List (Option K)) (rs : List Record) (us : List ℕ) (held : IsHeld names rs us) where
  abbrev entries : List (Entry K)
  entries = entries_of names rs

  there : (i : ℕ) → i < length entries → i < length rs
  there i below = omega (arith, below, held_length eq names rs us held)

  at : (i : ℕ) (d : Entry K) → i < length entries → IsEntryOf names (get_or rs i no_record) (get_or entries i d)
  at i d below = entry_at names rs (held_named eq names rs us held) i d no_record (there i below)

  pub sound : HasEachOnce eq names → IsSound eq entries
  sound once = record {
    once = λ i j d less below.
        let one = at i d (omega (arith, less, below)) in
        let other = at j d below in
        false_from_ne_true (is_entry eq (get_or entries i d).holder (get_or entries i d).thing (get_or entries j d)) (λ is.
        let parts = and_parts ((get_or entries i d).holder == (get_or entries j d).holder) (eq (get_or entries i d).thing (get_or entries j d).thing) is in
        let same_thing = once (get_or rs i no_record).thing (get_or rs j no_record).thing (get_or entries i d).thing one.name
        (ap (is_name eq (get_or entries i d).thing) other.name ∙ parts.1) in
        omega (
          arith,
          held.table.ascending i j no_record less (there j below),
          same_thing,
          one.holder,
          other.holder,
          eqb-true (get_or entries i d).holder (get_or entries j d).holder parts.0,
        ));
    some = λ i d below. ap are_none (at i d below).bits ∙ held.table.some i no_record (there i below);
    ordered = λ i j d le below.
        let first : i < length entries = omega (arith, le, below) in
        omega (
          arith,
          nondecreasing rs held.table.ascending i j no_record le (there j below),
          (at i d first).holder,
          (at j d below).holder,
          (held.table.within j no_record (there j below)).0.1,
        );
    within = λ i d below.
        let fits = held.table.within i no_record (there i below) in (
          omega (arith, (at i d below).holder, fits.0.0),
          (omega (arith, ap (λ b. b.granted) (at i d below).bits, fits.1.0), omega (arith, ap (λ b. b.restricted) (at i d below).bits, fits.1.1)),
        );
  }

  -- the records of a holder begin where its entries do
  pub first_is : (holder place : ℕ) → place ≤ length rs →
      ((k : ℕ) (d : Record) → k < place → rank (get_or rs k d) < holder * 2 ^ 32 + 0) →
      ((k : ℕ) (d : Record) → place ≤ k → k < length rs → holder * 2 ^ 32 + 0 ≤ rank (get_or rs k d)) → IsFirstOf entries holder place
  first_is holder place inside before after = record {
    inside = omega (arith, inside, held_length eq names rs us held);
    before = λ k d low high.
        let below : k < length entries = omega (arith, high, inside, held_length eq names rs us held) in
        omega (arith, before k no_record high, (at k d below).holder);
    after = λ k d low high.
        omega (arith, after k no_record low (there k high), (at k d high).holder, (held.table.within k no_record (there k high)).0.1);
  }

  -- the names that stand are the things that have entries
  pub things_are : IsEquivalence eq → HasEachOnce eq names → (listed : List K) → IsListOf eq names listed → AreThings eq entries listed
  things_are laws once listed list = record {
    once = list.once;
    used = λ i d below.
        let thing = get_or listed i d in
        let stands = list.stand i d below in
        any_known eq laws names once rs stands.0 thing (ap (is_name eq thing) stands.1 ∙ laws.refl thing)
        ∙ any_used stands.0 rs
        ∙ sym (held.stands stands.0 ∙ ap (nat_lt 0) (held.uses_are stands.0))
        ∙ ap is_some stands.1;
    all = λ i d below. list.all (get_or rs i no_record).thing (get_or entries i d).thing (at i d below).name;
  }

  -- the record at a place, with the name of its number, is the entry there
  pub entry_is : (place : ℕ) (r : Record) (thing : K) → place < length rs → ((d : Record) → get_or rs place d ≡ r) → name_at names r.thing ≡ Some thing →
      slice_get entries place ≡ Some (record { holder = r.holder; thing = thing; bits = r.bits })
  entry_is place r thing within is name =
      let e : Entry K = record { holder = r.holder; thing = thing; bits = r.bits } in
      let below : place < length entries = omega (arith, within, held_length eq names rs us held) in
      slice_get-get_or entries place e below ∙ ap Some (same (get_or entries place e) (at place e below))
    where
      same : (x : Entry K) → IsEntryOf names (get_or rs place no_record) x → x ≡ record { holder = r.holder; thing = thing; bits = r.bits }
      same x of =
          ap {B = Entry K} (λ h. record { holder = h; thing = x.thing; bits = x.bits }) (of.holder ∙ ap (λ (y : Record). y.holder) (is no_record))
          ∙ ap {B = Entry K} (λ b. record { holder = r.holder; thing = x.thing; bits = b }) (of.bits ∙ ap (λ (y : Record). y.bits) (is no_record))
          ∙ ap {B = Entry K} (λ t. record { holder = r.holder; thing = t; bits = r.bits })
          (same_Some x.thing thing (sym of.name ∙ ap (λ (y : Record). name_at names y.thing) (is no_record) ∙ name))

  -- the things that have names are those that have entries
  pub things_counted : IsEquivalence eq → HasEachOnce eq names → count_by is_some names ≡ thing_count eq entries
  things_counted laws once =
      names_pass names (λ n. nat_lt 0 (number_uses rs n)) (λ n. held.stands n ∙ ap (nat_lt 0) (held.uses_are n))
      ∙ numbers_used (length names) rs (λ n used. name_within names n ((held_named eq names rs us held).named n used))
      ∙ sym (things_known eq laws names once rs (held_named eq names rs us held))
