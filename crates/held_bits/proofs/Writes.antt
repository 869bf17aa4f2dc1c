-- What a write of bits does to a table.
use Rattle.std.proofs.Common.{◌≡◌, ◌∙◌, refl, sym, ap, subst, ℕ, suc, Bool, true, false, cond, ◌<◌, ◌≤◌, ◌+◌, ◌-◌, ◌==◌, ◌&&◌, List, ◌∷◌, length, get_or, set, take, drop, if◌then◌else◌, inl, inr, arith}
use Rattle.std.specs.List.{insert, remove}
use Rattle.std.proofs.lemmas.Bool.{cases_eq, eq-eqb, eqb-true, ne_eqb, and_parts}
use Rattle.std.proofs.lemmas.List.{get_or-set_same, get_or-set_other, length-set}
use Rattle.std.proofs.lemmas.List.Edits.{length-insert, length-remove}
use Rattle.std.proofs.lemmas.List.Elements.{All-set, All-append, All-cons, All-take, All-drop}
use Rattle.std.proofs.lemmas.List.Quantifiers.{all_pairs_remove}
use Rattle.std.proofs.lemmas.List.Sums.{sum_by-insert, sum_by-set, sum_by-remove, count_by-le-length}
use Rattle.held_bits.specs.declared.bits.Bits.{Bits}
use Rattle.held_bits.specs.declared.record.Record.{Record}
use Rattle.held_bits.specs.Bits.{no_bits, are_none, record_count}
use Rattle.held_bits.specs.Records.{AreUses, IsTable, IsWithin, bits_in, has_number, number_uses, rank}
use Rattle.held_bits.specs.Written.{FitsAt, IsWritten, StandsAt}
use Rattle.held_bits.proofs.Tables.{no_record, bits_absent, bits_found, bits_inserted, bits_overwritten, bits_removed, fits_absent, alone, ascending_inserted, ascending_overwritten}

-- bits that are none are the empty ones
pub none_is : (b : Bits) → are_none b ≡ true → b ≡ no_bits
none_is b is =
    let parts = and_parts (b.granted == 0) (b.restricted == 0) is in
    let first : b ≡ record { granted = 0; restricted = b.restricted } =
    ap {B = Bits} (λ (g : ℕ). record { granted = g; restricted = b.restricted }) (eqb-true b.granted 0 parts.0) in
    first ∙ ap {B = Bits} (λ (r : ℕ). record { granted = 0; restricted = r }) (eqb-true b.restricted 0 parts.1)

none_counted : (b : Bits) → are_none b ≡ true → record_count b ≡ 0
none_counted b is = ap (λ (t : Bool). if t then 0 else 1) is

pub some_counted : (b : Bits) → are_none b ≡ false → record_count b ≡ 1
some_counted b is = ap (λ (t : Bool). if t then 0 else 1) is

abbrev one_if : Bool → ℕ
one_if b = cond b 1 0

one_more : (b : Bool) (x c kept put : ℕ) → x ≡ c + cond b 1 0 → kept ≡ 0 → put ≡ 1 → x + (if b then kept else 0) ≡ c + (if b then put else 0)
one_more true x c kept put is none one = omega arith
one_more false x c kept put is none one = omega arith

one_less : (b : Bool) (x c kept put : ℕ) → x + cond b 1 0 ≡ c → kept ≡ 1 → put ≡ 0 → x + (if b then kept else 0) ≡ c + (if b then put else 0)
one_less true x c kept put is none one = omega arith
one_less false x c kept put is none one = omega arith

as_many : (b : Bool) (x c kept put : ℕ) → x ≡ c → kept ≡ put → x + (if b then kept else 0) ≡ c + (if b then put else 0)
as_many true x c kept put is same = omega arith
as_many false x c kept put is same = omega arith

-- no number has more records than there are
pub uses_few : (rs : List Record) (us : List ℕ) (thing : ℕ) → AreUses rs us → get_or us thing 0 ≤ length rs
uses_few rs us thing uses = omega (arith, uses thing, count_by-le-length (has_number thing) rs)

module _ (rs : List Record) (us : List ℕ) (holder thing place : ℕ) (bits : Bits) (table : IsTable rs) (uses : AreUses rs us) (known : thing < length us) where
  module _ (fits : FitsAt rs holder thing place) where
    absent : bits_in rs holder thing ≡ no_bits
    absent = bits_absent rs holder thing (fits_absent rs holder thing place fits)

    -- nothing is written where there was nothing
    pub written_same : are_none bits ≡ true → IsWritten rs rs us us holder thing bits
    written_same none = record {
      table = table;
      uses_are = uses;
      numbers = refl;
      sets = λ h n. same ((h == holder) && (n == thing)) (bits_in rs h n) (λ is.
          let parts = and_parts (h == holder) (n == thing) is in
          ap (λ x. bits_in rs x n) (eqb-true h holder parts.0) ∙ ap (bits_in rs holder) (eqb-true n thing parts.1)
          ∙ absent ∙ sym (none_is bits none));
      count = ap (λ x. length rs + x) (ap record_count absent ∙ sym (none_counted bits none));
      counts = λ n. as_many (n == thing) (number_uses rs n) (number_uses rs n) (record_count (bits_in rs holder thing)) (record_count bits) refl
          (ap record_count absent ∙ sym (none_counted bits none));
    }
      where
        same : (b : Bool) (x : Bits) → (b ≡ true → x ≡ bits) → x ≡ (if b then bits else x)
        same true x is = is refl
        same false x is = refl

    -- a record more
    module _ (some : are_none bits ≡ false) (within : IsWithin (record { holder = holder; thing = thing; bits = bits })) where
      abbrev more : Record
      more = record { holder = holder; thing = thing; bits = bits }

      uses_more : (n : ℕ) → number_uses (insert rs place more) n ≡ number_uses rs n + cond (n == thing) 1 0
      uses_more n = sum_by-insert (λ r. cond (has_number n r) 1 0) rs place more

      uses_put : AreUses (insert rs place more) (set us thing (get_or us thing 0 + 1))
      uses_put n =
          elim (cases_eq n thing) [
            | inl same ↦ omega (
              arith,
              ap (λ m. get_or (set us thing (get_or us thing 0 + 1)) m 0) same,
              get_or-set_same us thing (get_or us thing 0 + 1) 0 known,
              uses thing,
              uses_more n,
              ap {B = ℕ} (λ (b : Bool). cond b 1 0) (eq-eqb n thing same),
              ap (number_uses rs) same,
            )
            | inr other ↦ omega (
              arith,
              get_or-set_other us thing n (get_or us thing 0 + 1) 0 other,
              uses n,
              uses_more n,
              ap {B = ℕ} (λ (b : Bool). cond b 1 0) (ne_eqb n thing other),
            )
          ]

      pub written_in : IsWritten rs (insert rs place more) us (set us thing (get_or us thing 0 + 1)) holder thing bits
      written_in = record {
        table = record {
          ascending = ascending_inserted rs place more table.ascending fits;
          some = All-append (λ (r : Record). are_none r.bits ≡ false) (take place rs) (more ∷ drop place rs)
              (All-take (λ (r : Record). are_none r.bits ≡ false) place rs table.some)
              (All-cons (λ (r : Record). are_none r.bits ≡ false) more (drop place rs) some
              (All-drop (λ (r : Record). are_none r.bits ≡ false) place rs table.some));
          within = All-append IsWithin (take place rs) (more ∷ drop place rs) (All-take IsWithin place rs table.within)
              (All-cons IsWithin more (drop place rs) within (All-drop IsWithin place rs table.within));
        };
        uses_are = uses_put;
        numbers = length-set us thing (get_or us thing 0 + 1);
        sets = bits_inserted rs place more (fits_absent rs holder thing place fits);
        count = omega (arith, length-insert rs place more fits.inside, ap record_count absent, some_counted bits some);
        counts = λ n. one_more (n == thing) (number_uses (insert rs place more) n) (number_uses rs n) (record_count (bits_in rs holder thing))
            (record_count bits) (uses_more n) (ap record_count absent) (some_counted bits some);
      }

  module _ (stands : StandsAt rs holder thing place) where
    present : record_count (bits_in rs holder thing) ≡ 1
    present =
        ap record_count (bits_found rs holder thing place table stands no_record)
        ∙ some_counted (get_or rs place no_record).bits (table.some place no_record stands.inside)

    on_thing : (n : ℕ) → one_if (has_number n (get_or rs place no_record)) ≡ one_if (n == thing)
    on_thing n = ap (λ (t : ℕ). one_if (n == t)) (stands.thing_is no_record)

    uses_less : (n : ℕ) → number_uses (remove rs place) n + cond (n == thing) 1 0 ≡ number_uses rs n
    uses_less n = omega (arith, sum_by-remove (λ r. cond (has_number n r) 1 0) rs place no_record stands.inside, on_thing n)

    -- a record that stands is counted
    pub used : 0 < get_or us thing 0
    used = omega (arith, uses thing, uses_less thing, ap {B = ℕ} (λ (b : Bool). cond b 1 0) (eq-eqb thing thing refl))

    module _ (some : are_none bits ≡ false) (within : IsWithin (record { holder = holder; thing = thing; bits = bits })) where
      abbrev other_bits : Record
      other_bits = record { holder = holder; thing = thing; bits = bits }

      uses_kept : (n : ℕ) → number_uses (set rs place other_bits) n ≡ number_uses rs n
      uses_kept n = omega (arith, sum_by-set (λ r. cond (has_number n r) 1 0) rs place other_bits no_record stands.inside, on_thing n)

      -- other bits in a record
      pub written_over : IsWritten rs (set rs place other_bits) us us holder thing bits
      written_over = record {
        table = record {
          ascending = ascending_overwritten rs place other_bits table.ascending stands;
          some = All-set (λ (r : Record). are_none r.bits ≡ false) rs place other_bits some table.some;
          within = All-set IsWithin rs place other_bits within table.within;
        };
        uses_are = λ n. uses n ∙ sym (uses_kept n);
        numbers = refl;
        sets = bits_overwritten rs place other_bits stands.inside stands.holder_is stands.thing_is
            (λ k d early. alone rs holder thing place table stands k d (λ e. omega (arith, e, early)) (omega (arith, early, stands.inside)));
        count = omega (arith, length-set rs place other_bits, present, some_counted bits some);
        counts = λ n. as_many (n == thing) (number_uses (set rs place other_bits) n) (number_uses rs n) (record_count (bits_in rs holder thing))
            (record_count bits) (uses_kept n) (present ∙ sym (some_counted bits some));
      }

      -- the same, of the record as it stood
      pub written_in_place : (d : Record) →
          IsWritten rs (set rs place (record (get_or rs place d) { bits = bits })) us us holder thing bits
      written_in_place d =
          subst (λ r. IsWritten rs (set rs place r) us us holder thing bits) (sym same) written_over
        where
          same : record (get_or rs place d) { bits = bits } ≡ other_bits
          same =
              ap {B = Record} (λ (h : ℕ). record { holder = h; thing = (get_or rs place d).thing; bits = bits }) (stands.holder_is d)
              ∙ ap {B = Record} (λ (t : ℕ). record { holder = holder; thing = t; bits = bits }) (stands.thing_is d)

    -- a record goes
    module _ (none : are_none bits ≡ true) where
      uses_cut : AreUses (remove rs place) (set us thing (get_or us thing 0 - 1))
      uses_cut n =
          elim (cases_eq n thing) [
            | inl same ↦ omega (
              arith,
              ap (λ m. get_or (set us thing (get_or us thing 0 - 1)) m 0) same,
              get_or-set_same us thing (get_or us thing 0 - 1) 0 known,
              uses thing,
              uses_less n,
              ap {B = ℕ} (λ (b : Bool). cond b 1 0) (eq-eqb n thing same),
              ap (number_uses rs) same,
            )
            | inr other ↦ omega (
              arith,
              get_or-set_other us thing n (get_or us thing 0 - 1) 0 other,
              uses n,
              uses_less n,
              ap {B = ℕ} (λ (b : Bool). cond b 1 0) (ne_eqb n thing other),
            )
          ]

      pub written_out : IsWritten rs (remove rs place) us (set us thing (get_or us thing 0 - 1)) holder thing bits
      written_out = record {
        table = record {
          ascending = all_pairs_remove (λ one other. rank one < rank other) rs place stands.inside table.ascending;
          some = All-append (λ (r : Record). are_none r.bits ≡ false) (take place rs) (drop (suc place) rs)
              (All-take (λ (r : Record). are_none r.bits ≡ false) place rs table.some)
              (All-drop (λ (r : Record). are_none r.bits ≡ false) (suc place) rs table.some);
          within = All-append IsWithin (take place rs) (drop (suc place) rs) (All-take IsWithin place rs table.within)
              (All-drop IsWithin (suc place) rs table.within);
        };
        uses_are = uses_cut;
        numbers = length-set us thing (get_or us thing 0 - 1);
        sets = λ h n.
            bits_removed rs place holder thing stands.inside stands.holder_is stands.thing_is
            (λ k d apart below. alone rs holder thing place table stands k d apart below) h n
            ∙ ap (λ (b : Bits). if (h == holder) && (n == thing) then b else bits_in rs h n) (sym (none_is bits none));
        count = omega (arith, length-remove rs place stands.inside, present, none_counted bits none);
        counts = λ n. one_less (n == thing) (number_uses (remove rs place) n) (number_uses rs n) (record_count (bits_in rs holder thing))
            (record_count bits) (uses_less n) present (none_counted bits none);
      }
