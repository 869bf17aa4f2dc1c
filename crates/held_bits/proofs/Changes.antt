-- What a write of bits changes of what is held.
use Rattle.std.proofs.Common.{◌≡◌, ◌≢◌, ◌∙◌, refl, sym, ap, ℕ, Bool, true, false, ◌<◌, ◌≤◌, ◌+◌, ◌-◌, ◌==◌, ◌&&◌, List, length, get_or, min, Option, None, Some, is_some, nat_lt, if◌then◌else◌, inl, inr, arith}
use Rattle.std.specs.Cmp.{IsEquivalence}
use Rattle.std.proofs.lemmas.Bool.{cases_lt, cases_eq, eq-eqb, eqb-true, ne_eqb, and_parts, and_from, and_left, and_right, lt-ltb, le-ltb, ltb-true, false_from_ne_true, true_from_ne_false, true≢false}
use Rattle.std.proofs.lemmas.List.{get_or_past}
use Rattle.numbered_names.specs.Numbered.{name_at, is_name, HasEachOnce, IsNew}
use Rattle.held_bits.specs.declared.bits.Bits.{Bits}
use Rattle.held_bits.specs.declared.record.Record.{Record}
use Rattle.held_bits.specs.Bits.{no_bits, are_none, record_count}
use Rattle.held_bits.specs.HeldBits.{CountsThings, CountsUses, Entry, SetsBits, bits_at, has_thing, thing_count, uses_in}
use Rattle.held_bits.specs.Records.{AreUses, IsHeld, bits_in, entries_of, number_uses, record_limit}
use Rattle.held_bits.specs.Written.{IsWritten}
use Rattle.held_bits.proofs.Writes.{none_is}
use Rattle.held_bits.proofs.Things.{things_changed}
use Rattle.held_bits.proofs.Entries.{IsNamed, bits_known, bits_new, entries_length, entries_same, held_counted, is_some_from_name, sets_bits, uses_changed}

-- a number that is used is one of the table
pub used_within : (us : List ℕ) (n : ℕ) → 0 < get_or us n 0 → n < length us
used_within us n more =
    elim (cases_lt n (length us)) [
      | inl within ↦ within
      | inr past ↦ absurd (omega (arith, more, get_or_past us n 0 past))
    ]

-- where there is something, one record keeps it
kept_at_most : (b : Bits) → record_count b ≤ 1
kept_at_most b = by (are_none b)
  where
    by : (t : Bool) → (if t then 0 else 1) ≤ 1
    by true = omega arith
    by false = omega arith

no_more : (old new : Bits) → (are_none new ≡ false → are_none old ≡ false) → record_count new ≤ record_count old
no_more old new keeps = by (are_none new) (are_none old) keeps
  where
    by : (n o : Bool) → (n ≡ false → o ≡ false) → (if n then 0 else 1) ≤ (if o then 0 else 1)
    by true o keeps = omega arith
    by false true keeps = absurd (true≢false (keeps refl))
    by false false keeps = omega arith

-- the number of a name is used
pub name_used : {K : Type 0} (eq : K → K → Bool) (names : List (Option K)) (us : List ℕ) → ((n : ℕ) → is_some (name_at names n) ≡ nat_lt 0 (get_or us n 0)) →
    (number : ℕ) (thing : K) → is_name eq thing (name_at names number) ≡ true → 0 < get_or us number 0
name_used eq names us stands number thing is =
    ltb-true 0 (get_or us number 0) (sym (stands number) ∙ is_some_from_name eq thing (name_at names number) is)

module _ {K : Type 0} (eq : K → K → Bool) (names : List (Option K)) (rs : List Record) (us : List ℕ) (held : IsHeld names rs us) where
  pub held_named : IsNamed names rs
  held_named = record { named = λ n more. held.stands n ∙ lt-ltb 0 (get_or us n 0) (omega (arith, held.uses_are n, more)) }

  pub held_length : length rs ≡ length (entries_of names rs)
  held_length = sym (entries_length names rs held_named)

  pub number_within : (number : ℕ) (thing : K) → is_name eq thing (name_at names number) ≡ true → number < length us
  number_within number thing is = used_within us number (name_used eq names us held.stands number thing is)

-- records after a write, with names that are kept where they are used
module _ {K : Type 0} (eq : K → K → Bool) (laws : IsEquivalence eq) (names middle after : List (Option K)) (rs more : List Record) (us more_us : List ℕ)
    (holder number : ℕ) (thing : K) (bits : Bits) (all : IsNamed names rs) (once : HasEachOnce eq middle)
    (is : is_name eq thing (name_at middle number) ≡ true) (written : IsWritten rs more us more_us holder number bits)
    (same : (n : ℕ) → 0 < number_uses rs n → name_at middle n ≡ name_at names n)
    (kept : (n : ℕ) → 0 < number_uses more n → name_at after n ≡ name_at middle n)
    (all_after : IsNamed after more) where
  pub sets_after : SetsBits eq (entries_of names rs) (entries_of after more) holder thing bits
  sets_after h k =
      ap (λ (es : List (Entry K)). bits_at eq es h k) (entries_same middle after more kept)
      ∙ sets_bits eq laws middle once rs more holder number thing bits is written.sets h k
      ∙ ap (λ (es : List (Entry K)). if (h == holder) && eq k thing then bits else bits_at eq es h k) (entries_same names middle rs same)

  known_bits : bits_at eq (entries_of names rs) holder thing ≡ bits_in rs holder number
  known_bits =
      ap (λ (es : List (Entry K)). bits_at eq es holder thing) (sym (entries_same names middle rs same))
      ∙ bits_known eq laws middle once rs holder number thing is

  pub count_after : length (entries_of after more) + record_count (bits_at eq (entries_of names rs) holder thing)
      ≡ length (entries_of names rs) + record_count bits
  count_after =
      omega (arith, entries_length after more all_after, entries_length names rs all, written.count, ap record_count known_bits)

  named_rs : IsNamed middle rs
  named_rs = record { named = λ n used. ap is_some (same n used) ∙ all.named n used }

  named_more : IsNamed middle more
  named_more = record { named = λ n used. ap is_some (sym (kept n used)) ∙ all_after.named n used }

  pub uses_after : CountsUses eq (entries_of names rs) (entries_of after more) thing (bits_at eq (entries_of names rs) holder thing) bits
  uses_after k =
      omega (
        arith,
        ap (λ (es : List (Entry K)). uses_in eq es k) (entries_same middle after more kept),
        ap (λ (es : List (Entry K)). uses_in eq es k) (entries_same names middle rs same),
        ap (λ (b : Bits). if eq k thing then record_count b else 0) known_bits,
        uses_changed eq laws middle once rs more number thing (record_count (bits_in rs holder number)) (record_count bits) is written.counts k,
      )

  pub things_after : CountsThings eq (entries_of names rs) (entries_of after more) thing
  things_after =
      omega (
        arith,
        ap (thing_count eq) (entries_same middle after more kept),
        ap (thing_count eq) (entries_same names middle rs same),
        ap {B = ℕ} (λ (es : List (Entry K)). if has_thing eq es thing then 1 else 0) (entries_same middle after more kept),
        ap {B = ℕ} (λ (es : List (Entry K)). if has_thing eq es thing then 1 else 0) (entries_same names middle rs same),
        things_changed eq laws middle once rs more named_rs named_more number thing is (λ n apart.
            omega (
              arith,
              written.counts n,
              ap (λ (b : Bool). number_uses more n + (if b then record_count (bits_in rs holder number) else 0)) (ne_eqb n number apart),
              ap (λ (b : Bool). number_uses rs n + (if b then record_count bits else 0)) (ne_eqb n number apart),
            )),
      )

  pub room_after : (capacity : ℕ) → length rs ≤ capacity → length more ≤ capacity → length rs ≤ record_limit → length more ≤ record_limit →
      (min record_limit capacity - length more) + length (entries_of after more) ≡ (min record_limit capacity - length rs) + length (entries_of names rs)
  room_after capacity fits fits_after few few_after =
      omega (arith, entries_length after more all_after, entries_length names rs all, fits, fits_after, few, few_after)

-- where no use changes but that of one number
module _ {K : Type 0} (names : List (Option K)) (rs more : List Record) (us more_us : List ℕ) (holder number : ℕ) (bits : Bits)
    (uses : AreUses rs us) (written : IsWritten rs more us more_us holder number bits) where
  uses_elsewhere : (n : ℕ) → n ≢ number → get_or more_us n 0 ≡ get_or us n 0
  uses_elsewhere n apart =
      omega (
        arith,
        written.uses_are n,
        uses n,
        written.counts n,
        ap (λ (b : Bool). number_uses more n + (if b then record_count (bits_in rs holder number) else 0)) (ne_eqb n number apart),
        ap (λ (b : Bool). number_uses rs n + (if b then record_count bits else 0)) (ne_eqb n number apart),
      )

  -- after a thing's number is taken away where it has no records
  module _ (after : List (Option K)) (stands : (n : ℕ) → is_some (name_at names n) ≡ nat_lt 0 (get_or us n 0)) (named : is_some (name_at names number) ≡ true)
      (released : (n : ℕ) → name_at after n ≡ (if (n == number) && (get_or more_us number 0 == 0) then None else name_at names n)) where
    stays : (n : ℕ) → ((n == number) && (get_or more_us number 0 == 0)) ≡ false → name_at after n ≡ name_at names n
    stays n not_gone = released n ∙ ap (λ (b : Bool). if b then None else name_at names n) not_gone

    pub released_kept : (n : ℕ) → 0 < number_uses more n → name_at after n ≡ name_at names n
    released_kept n used =
        stays n (false_from_ne_true ((n == number) && (get_or more_us number 0 == 0)) (λ gone.
        let parts = and_parts (n == number) (get_or more_us number 0 == 0) gone in
        omega (arith, used, written.uses_are n, eqb-true (get_or more_us number 0) 0 parts.1, ap (λ (m : ℕ). get_or more_us m 0) (eqb-true n number parts.0))))

    pub released_stands : (n : ℕ) → is_some (name_at after n) ≡ nat_lt 0 (get_or more_us n 0)
    released_stands n =
        elim (cases_eq n number) [
          | inl here ↦ elim (cases_eq (get_or more_us number 0) 0) [
            | inl none ↦
                ap is_some (released n ∙ ap (λ (b : Bool). if b then None else name_at names n)
                (and_from (n == number) (get_or more_us number 0 == 0) (eq-eqb n number here) (eq-eqb (get_or more_us number 0) 0 none)))
                ∙ sym (le-ltb 0 (get_or more_us n 0) (omega (arith, none, ap (λ (m : ℕ). get_or more_us m 0) here)))
            | inr some ↦
                ap is_some (stays n (and_right (n == number) (get_or more_us number 0 == 0) (ne_eqb (get_or more_us number 0) 0 some)))
                ∙ ap (λ (m : ℕ). is_some (name_at names m)) here ∙ named
                ∙ sym (lt-ltb 0 (get_or more_us n 0) (positive (get_or more_us n 0) (λ e. some (sym (ap (λ (m : ℕ). get_or more_us m 0) here) ∙ e))))
          ]
          | inr apart ↦
              ap is_some (stays n (and_left (n == number) (get_or more_us number 0 == 0) (ne_eqb n number apart)))
              ∙ stands n ∙ ap (nat_lt 0) (sym (uses_elsewhere n apart))
        ]
      where
        positive : (m : ℕ) → m ≢ 0 → 0 < m
        positive m some = elim (cases_lt 0 m) [ inl less ↦ less | inr not_less ↦ absurd (some (omega arith)) ]

  -- after something was written on a number that has a name
  module _ (middle : List (Option K)) (stands : (n : ℕ) → is_some (name_at names n) ≡ nat_lt 0 (get_or us n 0)) (named : is_some (name_at middle number) ≡ true)
      (others : (n : ℕ) → n ≢ number → name_at middle n ≡ name_at names n) (some : are_none bits ≡ false) where
    written_used : 0 < number_uses more number
    written_used =
        held_counted more holder number
        (ap are_none (written.sets holder number
        ∙ ap (λ (b : Bool). if b then bits else bits_in rs holder number)
        (and_from (holder == holder) (number == number) (eq-eqb holder holder refl) (eq-eqb number number refl))) ∙ some)

    pub written_stands : (n : ℕ) → is_some (name_at middle n) ≡ nat_lt 0 (get_or more_us n 0)
    written_stands n =
        elim (cases_eq n number) [
          | inl here ↦
              ap (λ (m : ℕ). is_some (name_at middle m)) here ∙ named
              ∙ sym (lt-ltb 0 (get_or more_us n 0) (omega (arith, written_used, written.uses_are number, ap (λ (m : ℕ). get_or more_us m 0) here)))
          | inr apart ↦ ap is_some (others n apart) ∙ stands n ∙ ap (nat_lt 0) (sym (uses_elsewhere n apart))
        ]

-- no more records than there may be
pub few_after : (old new : List Record) (before put : Bits) → length new + record_count before ≡ length old + record_count put → length old < record_limit →
    length new ≤ record_limit
few_after old new before put count few = omega (arith, count, few, kept_at_most put)

pub few_kept : (old new : List Record) (before put : Bits) → length new + record_count before ≡ length old + record_count put → length old ≤ record_limit →
    (are_none put ≡ false → are_none before ≡ false) → length new ≤ record_limit
few_kept old new before put count few keeps = omega (arith, count, few, no_more before put keeps)

-- nothing is taken from a pair that holds nothing
pub none_set : {K : Type 0} (eq : K → K → Bool) → IsEquivalence eq → (entries : List (Entry K)) (holder : ℕ) (thing : K) (bits : Bits) →
    ((h : ℕ) (k : K) → eq k thing ≡ true → bits_at eq entries h k ≡ no_bits) → are_none bits ≡ true → SetsBits eq entries entries holder thing bits
none_set eq laws entries holder thing bits absent none h k =
    by ((h == holder) && eq k thing) (λ is. absent h k (and_parts (h == holder) (eq k thing) is).1)
  where
    by : (b : Bool) → (b ≡ true → bits_at eq entries h k ≡ no_bits) → bits_at eq entries h k ≡ (if b then bits else bits_at eq entries h k)
    by true is = is refl ∙ sym (none_is bits none)
    by false is = refl

-- as many entries are on each thing where nothing was held and nothing is set
pub same_uses : {K : Type 0} (eq : K → K → Bool) (entries : List (Entry K)) (thing : K) (before put : Bits) → record_count before ≡ record_count put →
    CountsUses eq entries entries thing before put
same_uses eq entries thing before put same k = ap (λ (x : ℕ). uses_in eq entries k + (if eq k thing then x else 0)) same

-- a thing that is equal to a new one holds nothing
pub equal_is_new : {K : Type 0} (eq : K → K → Bool) → IsEquivalence eq → (names : List (Option K)) (rs : List Record) (thing : K) → IsNew eq names thing →
    (h : ℕ) (k : K) → eq k thing ≡ true → bits_at eq (entries_of names rs) h k ≡ no_bits
equal_is_new {K} eq laws names rs thing new h k same = bits_new eq names rs h k (λ n. by (name_at names n) (new n))
  where
    by : (o : Option K) → is_name eq thing o ≡ false → is_name eq k o ≡ false
    by None none = refl
    by (Some x) other = laws.congr k thing x same ∙ other

-- nothing is set where a thing that holds something is asked for
pub new_none : {K : Type 0} (eq : K → K → Bool) (names : List (Option K)) (rs : List Record) (holder : ℕ) (thing : K) (bits : Bits) → IsNew eq names thing →
    (are_none bits ≡ false → are_none (bits_at eq (entries_of names rs) holder thing) ≡ false) → are_none bits ≡ true
new_none eq names rs holder thing bits new keeps =
    true_from_ne_false (are_none bits) (λ some. true≢false (sym (ap are_none (bits_new eq names rs holder thing new)) ∙ keeps some))

-- a write on the number of a thing that was known, after which the number is free where it has no records
module _ {K : Type 0} (eq : K → K → Bool) (laws : IsEquivalence eq) (names after : List (Option K)) (rs more : List Record) (us more_us : List ℕ)
    (held : IsHeld names rs us) (once : HasEachOnce eq names) (holder number : ℕ) (thing : K) (bits : Bits)
    (is : is_name eq thing (name_at names number) ≡ true) where
  pub keeps_in : (are_none bits ≡ false → are_none (bits_at eq (entries_of names rs) holder thing) ≡ false) →
      are_none bits ≡ false → are_none (bits_in rs holder number) ≡ false
  keeps_in keeps some = ap are_none (sym (bits_known eq laws names once rs holder number thing is)) ∙ keeps some

  module _ (keeps : are_none bits ≡ false → are_none (bits_at eq (entries_of names rs) holder thing) ≡ false)
      (written : IsWritten rs more us more_us holder number bits) (same_length : length after ≡ length names)
      (released : (n : ℕ) → name_at after n ≡ (if (n == number) && (get_or more_us number 0 == 0) then None else name_at names n)) where
    pub released_held : IsHeld after more more_us
    released_held = record {
      table = written.table;
      few = few_kept rs more (bits_in rs holder number) bits written.count held.few (keeps_in keeps);
      uses_are = written.uses_are;
      numbers = written.numbers ∙ held.numbers ∙ sym same_length;
      stands = released_stands names rs more us more_us holder number bits held.uses_are written after held.stands
          (is_some_from_name eq thing (name_at names number) is) released;
    }

    kept : (n : ℕ) → 0 < number_uses more n → name_at after n ≡ name_at names n
    kept = released_kept names rs more us more_us holder number bits held.uses_are written after held.stands
        (is_some_from_name eq thing (name_at names number) is) released

    pub sets_released : SetsBits eq (entries_of names rs) (entries_of after more) holder thing bits
    sets_released = sets_after eq laws names names after rs more us more_us holder number thing bits (held_named eq names rs us held) once is written
        (λ n used. refl) kept (held_named eq after more more_us released_held)

    pub count_released : length (entries_of after more) + record_count (bits_at eq (entries_of names rs) holder thing)
        ≡ length (entries_of names rs) + record_count bits
    count_released = count_after eq laws names names after rs more us more_us holder number thing bits (held_named eq names rs us held) once is written
        (λ n used. refl) kept (held_named eq after more more_us released_held)

    pub uses_released : CountsUses eq (entries_of names rs) (entries_of after more) thing (bits_at eq (entries_of names rs) holder thing) bits
    uses_released = uses_after eq laws names names after rs more us more_us holder number thing bits (held_named eq names rs us held) once is written
        (λ n used. refl) kept (held_named eq after more more_us released_held)

    pub things_released : CountsThings eq (entries_of names rs) (entries_of after more) thing
    things_released = things_after eq laws names names after rs more us more_us holder number thing bits (held_named eq names rs us held) once is written
        (λ n used. refl) kept (held_named eq after more more_us released_held)

    pub room_released : (capacity : ℕ) → length rs ≤ capacity → length more ≤ capacity →
        (min record_limit capacity - length more) + length (entries_of after more) ≡ (min record_limit capacity - length rs) + length (entries_of names rs)
    room_released capacity fits fits_after =
        room_after eq laws names names after rs more us more_us holder number thing bits (held_named eq names rs us held) once is written
        (λ n used. refl) kept (held_named eq after more more_us released_held) capacity fits fits_after held.few released_held.few

-- something is written on a number that a thing has now
module _ {K : Type 0} (eq : K → K → Bool) (laws : IsEquivalence eq) (names middle : List (Option K)) (rs more : List Record) (us middle_us more_us : List ℕ)
    (held : IsHeld names rs us) (once : HasEachOnce eq middle) (holder number : ℕ) (thing : K) (bits : Bits)
    (is : is_name eq thing (name_at middle number) ≡ true) (some : are_none bits ≡ false) (few : length rs < record_limit)
    (numbers : length middle_us ≡ length middle) (uses : (n : ℕ) → get_or middle_us n 0 ≡ get_or us n 0)
    (stood : (n : ℕ) → is_some (name_at names n) ≡ true → name_at middle n ≡ name_at names n)
    (others : (n : ℕ) → n ≢ number → name_at middle n ≡ name_at names n) (written : IsWritten rs more middle_us more_us holder number bits) where
  pub put_held : IsHeld middle more more_us
  put_held = record {
    table = written.table;
    few = few_after rs more (bits_in rs holder number) bits written.count few;
    uses_are = written.uses_are;
    numbers = written.numbers ∙ numbers;
    stands = written_stands names rs more middle_us more_us holder number bits (λ n. uses n ∙ held.uses_are n) written middle
        (λ n. held.stands n ∙ ap (nat_lt 0) (sym (uses n))) (is_some_from_name eq thing (name_at middle number) is) others some;
  }

  same : (n : ℕ) → 0 < number_uses rs n → name_at middle n ≡ name_at names n
  same n used = stood n ((held_named eq names rs us held).named n used)

  pub sets_put : SetsBits eq (entries_of names rs) (entries_of middle more) holder thing bits
  sets_put = sets_after eq laws names middle middle rs more middle_us more_us holder number thing bits (held_named eq names rs us held) once is written
      same (λ n used. refl) (held_named eq middle more more_us put_held)

  pub count_put : length (entries_of middle more) + record_count (bits_at eq (entries_of names rs) holder thing)
      ≡ length (entries_of names rs) + record_count bits
  count_put = count_after eq laws names middle middle rs more middle_us more_us holder number thing bits (held_named eq names rs us held) once is written
      same (λ n used. refl) (held_named eq middle more more_us put_held)

  pub uses_put : CountsUses eq (entries_of names rs) (entries_of middle more) thing (bits_at eq (entries_of names rs) holder thing) bits
  uses_put = uses_after eq laws names middle middle rs more middle_us more_us holder number thing bits (held_named eq names rs us held) once is written
      same (λ n used. refl) (held_named eq middle more more_us put_held)

  pub things_put : CountsThings eq (entries_of names rs) (entries_of middle more) thing
  things_put = things_after eq laws names middle middle rs more middle_us more_us holder number thing bits (held_named eq names rs us held) once is written
      same (λ n used. refl) (held_named eq middle more more_us put_held)

  pub room_put : (capacity : ℕ) → length rs ≤ capacity → length more ≤ capacity →
      (min record_limit capacity - length more) + length (entries_of middle more) ≡ (min record_limit capacity - length rs) + length (entries_of names rs)
  room_put capacity fits fits_after =
      room_after eq laws names middle middle rs more middle_us more_us holder number thing bits (held_named eq names rs us held) once is written
      same (λ n used. refl) (held_named eq middle more more_us put_held) capacity fits fits_after held.few put_held.few
