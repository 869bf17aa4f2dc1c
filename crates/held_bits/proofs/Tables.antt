-- Records in order: what they say, and what an edit changes.
use Rattle.std.proofs.Common.{◌≡◌, ◌≢◌, ◌∙◌, refl, sym, ap, ℕ, zero, suc, Bool, true, false, ◌<◌, ◌≤◌, ◌+◌, ◌-◌, ◌*◌, ◌^◌, ◌==◌, ◌&&◌, List, [], ◌∷◌, length, get_or, set, if◌then◌else◌, inl, inr, arith}
use Rattle.std.specs.List.{All, AllPairs, insert, remove}
use Rattle.std.specs.List.Sorted.{IsNonDecreasingBy}
use Rattle.std.proofs.lemmas.Bool.{cases_lt, cases_eq, cases_Bool, eq-eqb, eqb-true, and_parts, and_from, true≢false}
use Rattle.std.proofs.lemmas.List.{get_or-set_same, get_or-set_other, length-set}
use Rattle.std.proofs.lemmas.List.Edits.{get_or-insert_at, get_or-insert_below, get_or-insert_above, length-insert}
use Rattle.held_bits.specs.declared.bits.Bits.{Bits}
use Rattle.held_bits.specs.declared.record.Record.{Record}
use Rattle.held_bits.specs.Bits.{no_bits}
use Rattle.held_bits.specs.Records.{IsTable, SetsRecord, bits_in, is_record, rank}
use Rattle.held_bits.specs.Written.{FitsAt, StandsAt}

abbrev pub no_record : Record
no_record = record { holder = 0; thing = 0; bits = no_bits }

pub nondecreasing : (rs : List Record) → AllPairs (λ one other. rank one < rank other) rs → IsNonDecreasingBy rank rs
nondecreasing rs up = λ i j d le below.
    elim (cases_lt i j) [
      | inl less ↦ omega (arith, up i j d less below)
      | inr not_less ↦ let same : i ≡ j = omega arith in rw same (omega arith)
    ]

-- a record of another rank is not that of the pair
pub other_record : (h n : ℕ) (r : Record) → rank r ≢ h * 2 ^ 32 + n → is_record h n r ≡ false
other_record h n r apart =
    elim (cases_Bool (is_record h n r)) [
      | inl is ↦
          let parts = and_parts (h == r.holder) (n == r.thing) is in
          absurd (apart (omega (arith, eqb-true h r.holder parts.0, eqb-true n r.thing parts.1)))
      | inr not_is ↦ not_is
    ]

-- a pair that no record has holds nothing
pub bits_absent : (rs : List Record) (h n : ℕ) → All (λ r. is_record h n r ≡ false) rs → bits_in rs h n ≡ no_bits
bits_absent [] h n none = refl
bits_absent (r ∷ rs) h n none =
    ap (λ (b : Bool). if b then r.bits else bits_in rs h n) (none 0 r (omega arith))
    ∙ bits_absent rs h n (λ k d below. none (suc k) d (omega arith))

-- two choices of which at most one is made may be exchanged
exchanged : (a b : Bool) (x y z : Bits) → (a ≡ true → b ≡ true → ⊥) → (if a then x else (if b then y else z)) ≡ (if b then y else (if a then x else z))
exchanged true true x y z apart = absurd (apart refl refl)
exchanged true false x y z apart = refl
exchanged false b x y z apart = refl

-- the record of another pair is not asked for where this pair is
never_both : (h n holder thing : ℕ) (r : Record) → is_record holder thing r ≡ false → is_record h n r ≡ true → ((h == holder) && (n == thing)) ≡ true → ⊥
never_both h n holder thing r apart is same =
    let here = and_parts (h == r.holder) (n == r.thing) is in
    let there = and_parts (h == holder) (n == thing) same in
    true≢false (sym (and_from (holder == r.holder) (thing == r.thing)
    (eq-eqb holder r.holder (sym (eqb-true h holder there.0) ∙ eqb-true h r.holder here.0))
    (eq-eqb thing r.thing (sym (eqb-true n thing there.1) ∙ eqb-true n r.thing here.1))) ∙ apart)

-- a record more, of a pair that had none
pub bits_inserted : (rs : List Record) (place : ℕ) (y : Record) → All (λ r. is_record y.holder y.thing r ≡ false) rs →
    SetsRecord rs (insert rs place y) y.holder y.thing y.bits
bits_inserted rs zero y none h n = refl
bits_inserted [] (suc place) y none h n = refl
bits_inserted (r ∷ rs) (suc place) y none h n =
    ap (λ (b : Bits). if is_record h n r then r.bits else b) (bits_inserted rs place y (λ k d below. none (suc k) d (omega arith)) h n)
    ∙ exchanged (is_record h n r) ((h == y.holder) && (n == y.thing)) r.bits y.bits (bits_in rs h n)
    (never_both h n y.holder y.thing r (none 0 r (omega arith)))

absorbed : (a : Bool) (x y z : Bits) → (if a then x else z) ≡ (if a then x else (if a then y else z))
absorbed true x y z = refl
absorbed false x y z = refl

-- other bits in the record of a pair
pub bits_overwritten : (rs : List Record) (place : ℕ) (y : Record) → place < length rs →
    ((d : Record) → (get_or rs place d).holder ≡ y.holder) → ((d : Record) → (get_or rs place d).thing ≡ y.thing) →
    ((k : ℕ) (d : Record) → k < place → is_record y.holder y.thing (get_or rs k d) ≡ false) → SetsRecord rs (set rs place y) y.holder y.thing y.bits
bits_overwritten [] place y within holder thing none h n = absurd (omega arith)
bits_overwritten (r ∷ rs) zero y within holder thing none h n =
    absorbed (is_record h n y) y.bits r.bits (bits_in rs h n)
    ∙ ap (λ (b : Bool). if is_record h n y then y.bits else (if b then r.bits else bits_in rs h n))
    (ap (λ m. (h == m) && (n == y.thing)) (sym (holder r)) ∙ ap (λ m. (h == r.holder) && (n == m)) (sym (thing r)))
bits_overwritten (r ∷ rs) (suc place) y within holder thing none h n =
    ap (λ (b : Bits). if is_record h n r then r.bits else b)
    (bits_overwritten rs place y (omega arith) holder thing (λ k d below. none (suc k) d (omega arith)) h n)
    ∙ exchanged (is_record h n r) ((h == y.holder) && (n == y.thing)) r.bits y.bits (bits_in rs h n)
    (never_both h n y.holder y.thing r (none 0 r (omega arith)))

gone_here : (a : Bool) (x z : Bits) → (a ≡ true → z ≡ no_bits) → z ≡ (if a then no_bits else (if a then x else z))
gone_here true x z none = none refl
gone_here false x z none = refl

-- no record of a pair any more
pub bits_removed : (rs : List Record) (place holder thing : ℕ) → place < length rs →
    ((d : Record) → (get_or rs place d).holder ≡ holder) → ((d : Record) → (get_or rs place d).thing ≡ thing) →
    ((k : ℕ) (d : Record) → k ≢ place → k < length rs → is_record holder thing (get_or rs k d) ≡ false) →
    SetsRecord rs (remove rs place) holder thing no_bits
bits_removed [] place holder thing within holder_is thing_is none h n = absurd (omega arith)
bits_removed (r ∷ rs) zero holder thing within holder_is thing_is none h n =
    gone_here ((h == holder) && (n == thing)) r.bits (bits_in rs h n)
    (λ same.
    let parts = and_parts (h == holder) (n == thing) same in
    ap (λ x. bits_in rs x n) (eqb-true h holder parts.0) ∙ ap (bits_in rs holder) (eqb-true n thing parts.1)
    ∙ bits_absent rs holder thing (λ k d below. none (suc k) d (λ e. omega arith) (omega arith)))
    ∙ ap (λ (b : Bool). if (h == holder) && (n == thing) then no_bits else (if b then r.bits else bits_in rs h n))
    (ap (λ m. (h == m) && (n == thing)) (sym (holder_is r)) ∙ ap (λ m. (h == r.holder) && (n == m)) (sym (thing_is r)))
bits_removed (r ∷ rs) (suc place) holder thing within holder_is thing_is none h n =
    ap (λ (b : Bits). if is_record h n r then r.bits else b)
    (bits_removed rs place holder thing (omega arith) holder_is thing_is (λ k d apart below. none (suc k) d (λ e. apart (omega arith)) (omega arith)) h n)
    ∙ exchanged (is_record h n r) ((h == holder) && (n == thing)) r.bits no_bits (bits_in rs h n)
    (never_both h n holder thing r (none 0 r (λ e. omega arith) (omega arith)))

-- what stands at a place is what the pair holds
pub bits_standing : (rs : List Record) (place holder thing : ℕ) (d : Record) → place < length rs →
    (get_or rs place d).holder ≡ holder → (get_or rs place d).thing ≡ thing →
    ((k : ℕ) (d : Record) → k < place → is_record holder thing (get_or rs k d) ≡ false) → bits_in rs holder thing ≡ (get_or rs place d).bits
bits_standing [] place holder thing d within holder_is thing_is none = absurd (omega arith)
bits_standing (r ∷ rs) zero holder thing d within holder_is thing_is none =
    ap (λ (b : Bool). if b then r.bits else bits_in rs holder thing)
    (and_from (holder == r.holder) (thing == r.thing) (eq-eqb holder r.holder (sym holder_is)) (eq-eqb thing r.thing (sym thing_is)))
bits_standing (r ∷ rs) (suc place) holder thing d within holder_is thing_is none =
    ap (λ (b : Bool). if b then r.bits else bits_in rs holder thing) (none 0 r (omega arith))
    ∙ bits_standing rs place holder thing d (omega arith) holder_is thing_is (λ k e below. none (suc k) e (omega arith))

module _ (rs : List Record) (holder thing place : ℕ) (fits : FitsAt rs holder thing place) where
  -- where a record fits, there is none of its pair
  pub fits_absent : All (λ r. is_record holder thing r ≡ false) rs
  fits_absent k d below =
      other_record holder thing (get_or rs k d) (λ e.
      elim (cases_lt k place) [
        | inl early ↦ omega (arith, fits.before k d early)
        | inr late ↦ omega (arith, fits.after k d late below)
      ])

module _ (rs : List Record) (holder thing place : ℕ) (table : IsTable rs) (stands : StandsAt rs holder thing place) where
  -- where a record stands, no other is of its pair
  pub alone : (k : ℕ) (d : Record) → k ≢ place → k < length rs → is_record holder thing (get_or rs k d) ≡ false
  alone k d apart below =
      other_record holder thing (get_or rs k d) (λ e.
      elim (cases_lt k place) [
        | inl early ↦ omega (arith, table.ascending k place d early stands.inside, stands.holder_is d, stands.thing_is d)
        | inr late ↦
            let later : place < k = elim (cases_lt place k) [ inl less ↦ less | inr not_less ↦ absurd (apart (omega arith)) ] in
            omega (arith, table.ascending place k d later below, stands.holder_is d, stands.thing_is d)
      ])

  pub bits_found : (d : Record) → bits_in rs holder thing ≡ (get_or rs place d).bits
  bits_found d =
      bits_standing rs place holder thing d stands.inside (stands.holder_is d) (stands.thing_is d)
      (λ k e early. alone k e (λ same. omega (arith, same, early)) (omega (arith, early, stands.inside)))

module _ (rs : List Record) (place : ℕ) (y : Record) (up : AllPairs (λ one other. rank one < rank other) rs)
    (fits : FitsAt rs y.holder y.thing place) where
  low : (k : ℕ) (d : Record) → k < place → rank (get_or (insert rs place y) k d) ≡ rank (get_or rs k d)
  low k d early = ap rank (get_or-insert_below rs place y d k early fits.inside)

  here : (k : ℕ) (d : Record) → k ≡ place → rank (get_or (insert rs place y) k d) ≡ rank y
  here k d same = ap (λ m. rank (get_or (insert rs place y) m d)) same ∙ ap rank (get_or-insert_at rs place y d fits.inside)

  high : (k : ℕ) (d : Record) → place < k → rank (get_or (insert rs place y) k d) ≡ rank (get_or rs (k - 1) d)
  high k d late =
      let before : k ≡ (k - 1) + 1 = omega arith in
      ap (λ m. rank (get_or (insert rs place y) m d)) before ∙ ap rank (get_or-insert_above rs place y d (k - 1) (omega arith) fits.inside)

  pub ascending_inserted : AllPairs (λ one other. rank one < rank other) (insert rs place y)
  ascending_inserted i j d less below =
      let size : j < length rs + 1 = omega (arith, below, length-insert rs place y fits.inside) in
      elim (cases_lt j place) [
        | inl j_low ↦ omega (arith, low i d (omega arith), low j d j_low, up i j d less (omega (arith, j_low, fits.inside)))
        | inr j_not_low ↦ elim (cases_lt place j) [
          | inr j_here ↦ omega (arith, low i d (omega arith), here j d (omega arith), fits.before i d (omega arith))
          | inl j_high ↦ elim (cases_lt i place) [
            | inl i_low ↦ omega (arith, low i d i_low, high j d j_high, up i (j - 1) d (omega arith) (omega arith))
            | inr i_not_low ↦ elim (cases_lt place i) [
              | inr i_here ↦ omega (arith, here i d (omega arith), high j d j_high, fits.after (j - 1) d (omega arith) (omega arith))
              | inl i_high ↦ omega (arith, high i d i_high, high j d j_high, up (i - 1) (j - 1) d (omega arith) (omega arith))
            ]
          ]
        ]
      ]

module _ (rs : List Record) (place : ℕ) (y : Record) (up : AllPairs (λ one other. rank one < rank other) rs)
    (stands : StandsAt rs y.holder y.thing place) where
  same_rank : (k : ℕ) (d : Record) → rank (get_or (set rs place y) k d) ≡ rank (get_or rs k d)
  same_rank k d =
      elim (cases_eq k place) [
        | inl same ↦
            ap (λ m. rank (get_or (set rs place y) m d)) same
            ∙ ap rank (get_or-set_same rs place y d stands.inside)
            ∙ omega (arith, stands.holder_is d, stands.thing_is d)
            ∙ ap (λ m. rank (get_or rs m d)) (sym same)
        | inr other ↦ ap rank (get_or-set_other rs place k y d other)
      ]

  pub ascending_overwritten : AllPairs (λ one other. rank one < rank other) (set rs place y)
  ascending_overwritten i j d less below =
      omega (arith, same_rank i d, same_rank j d, up i j d less (omega (arith, below, length-set rs place y)))

-- where no record of the pair stands at the place that the order gives it, it fits there
pub fits_from : (rs : List Record) (holder thing place : ℕ) → IsTable rs → thing < 2 ^ 32 → place ≤ length rs →
    ((k : ℕ) (d : Record) → k < place → rank (get_or rs k d) < holder * 2 ^ 32 + thing) →
    ((k : ℕ) (d : Record) → place ≤ k → k < length rs → holder * 2 ^ 32 + thing ≤ rank (get_or rs k d)) →
    ((d : Record) → place < length rs → (((get_or rs place d).holder == holder) && ((get_or rs place d).thing == thing)) ≡ false) →
    FitsAt rs holder thing place
fits_from rs holder thing place table thing_fits inside before after not_here = record {
  inside = inside;
  before = before;
  after = λ k d late below.
      let there : place < length rs = omega arith in
      let low = after place d (omega arith) there in
      elim (cases_lt place k) [
        | inl later ↦ omega (arith, low, table.ascending place k d later below)
        | inr not_later ↦
            let same : k ≡ place = omega arith in
            elim (cases_lt (holder * 2 ^ 32 + thing) (rank (get_or rs k d))) [
              | inl above ↦ above
              | inr not_above ↦
                  let high : rank (get_or rs place d) ≤ holder * 2 ^ 32 + thing = rw (sym same) not_above in
                  let bound = (table.within place d there).0.1 in
                  let holder_is : (get_or rs place d).holder ≡ holder = omega (arith, low, high, bound, thing_fits) in
                  let thing_is : (get_or rs place d).thing ≡ thing = omega (arith, low, high, holder_is) in
                  absurd (true≢false (sym (and_from ((get_or rs place d).holder == holder) ((get_or rs place d).thing == thing)
                  (eq-eqb (get_or rs place d).holder holder holder_is) (eq-eqb (get_or rs place d).thing thing thing_is)) ∙ not_here d there))
            ]
      ];
}
