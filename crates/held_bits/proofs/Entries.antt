-- What the entries say, by the records and the names of their numbers.
use Rattle.std.proofs.Common.{◌≡◌, ◌∙◌, refl, sym, ap, ℕ, zero, suc, Bool, true, false, cond, ◌<◌, ◌+◌, ◌==◌, ◌&&◌, ◌||◌, ◌++◌, List, [], ◌∷◌, length, get_or, Option, None, Some, is_some, if◌then◌else◌, ◌⊎◌, inl, inr, arith}
use Rattle.std.specs.List.{list_any}
use Rattle.std.specs.Cmp.{IsEquivalence}
use Rattle.std.proofs.lemmas.Bool.{cases_Bool, eq-eqb, ne_eqb, and_parts, and_right, true≢false}
use Rattle.std.proofs.lemmas.List.Sums.{sum_by-cons}
use Rattle.numbered_names.specs.Numbered.{name_at, is_name, HasEachOnce, IsNew}
use Rattle.held_bits.specs.declared.bits.Bits.{Bits}
use Rattle.held_bits.specs.declared.record.Record.{Record}
use Rattle.held_bits.specs.Bits.{no_bits, are_none}
use Rattle.held_bits.specs.HeldBits.{Entry, SetsBits, bits_at, is_on, uses_in}
use Rattle.held_bits.specs.Records.{SetsRecord, bits_in, entries_of, entry_of, has_number, is_record, number_uses}

-- how often a record counts
abbrev pub one_if : Bool → ℕ
one_if b = cond b 1 0

pub uses_cons : (n : ℕ) (r : Record) (rs : List Record) → number_uses (r ∷ rs) n ≡ one_if (n == r.thing) + number_uses rs n
uses_cons n r rs = sum_by-cons (λ x. one_if (has_number n x)) r rs

pub uses_head : (r : Record) (rs : List Record) → 0 < number_uses (r ∷ rs) r.thing
uses_head r rs = omega (arith, uses_cons r.thing r rs, ap one_if (eq-eqb r.thing r.thing refl))

uses_tail : (n : ℕ) (r : Record) (rs : List Record) → 0 < number_uses rs n → 0 < number_uses (r ∷ rs) n
uses_tail n r rs more = omega (arith, uses_cons n r rs)

-- where a holder holds something, the number is used
pub held_counted : (rs : List Record) (h n : ℕ) → are_none (bits_in rs h n) ≡ false → 0 < number_uses rs n
held_counted [] h n some = absurd (true≢false some)
held_counted (r ∷ rs) h n some =
    elim (cases_Bool (is_record h n r)) [
      | inl is ↦
          let parts = and_parts (h == r.holder) (n == r.thing) is in
          omega (arith, uses_cons n r rs, ap one_if parts.1)
      | inr not_is ↦
          uses_tail n r rs (held_counted rs h n
          (sym (ap (λ (b : Bool). are_none (if b then r.bits else bits_in rs h n)) not_is) ∙ some))
    ]

module _ {K : Type 0} where
  -- each number with records has a name
  pub record IsNamed (names : List (Option K)) (rs : List Record) : Type 0 where
    pub named : (n : ℕ) → 0 < number_uses rs n → is_some (name_at names n) ≡ true

  pub named_tail : (names : List (Option K)) (r : Record) (rs : List Record) → IsNamed names (r ∷ rs) → IsNamed names rs
  named_tail names r rs all = record { named = λ n more. all.named n (uses_tail n r rs more) }

  -- the names of numbers with records alone matter
  pub entries_same : (names after : List (Option K)) (rs : List Record) → ((n : ℕ) → 0 < number_uses rs n → name_at after n ≡ name_at names n) →
      entries_of after rs ≡ entries_of names rs
  entries_same names after [] same = refl
  entries_same names after (r ∷ rs) same =
      ap (λ (o : Option K). entry_of o r ++ entries_of after rs) (same r.thing (uses_head r rs))
      ∙ ap (λ (es : List (Entry K)). entry_of (name_at names r.thing) r ++ es) (entries_same names after rs (λ n more. same n (uses_tail n r rs more)))

  -- each record is an entry
  pub entries_length : (names : List (Option K)) (rs : List Record) → IsNamed names rs → length (entries_of names rs) ≡ length rs
  entries_length names [] all = refl
  entries_length names (r ∷ rs) all =
      by (name_at names r.thing) (all.named r.thing (uses_head r rs)) (entries_length names rs (named_tail names r rs all))
    where
      by : (o : Option K) → is_some o ≡ true → length (entries_of names rs) ≡ length rs → length (entry_of o r ++ entries_of names rs) ≡ length (r ∷ rs)
      by None none rest = absurd (true≢false (sym none))
      by (Some k) some rest = omega (arith, rest)

  -- an entry says what a record does
  pub record IsEntryOf (names : List (Option K)) (r : Record) (entry : Entry K) : Type 0 where
    pub name : name_at names r.thing ≡ Some entry.thing
    pub holder : entry.holder ≡ r.holder
    pub bits : entry.bits ≡ r.bits

  pub entry_at : (names : List (Option K)) (rs : List Record) → IsNamed names rs → (i : ℕ) (d : Entry K) (e : Record) → i < length rs →
      IsEntryOf names (get_or rs i e) (get_or (entries_of names rs) i d)
  entry_at names [] all i d e below = absurd (omega arith)
  entry_at names (r ∷ rs) all i d e below =
      by (name_at names r.thing) refl (λ j within. entry_at names rs (named_tail names r rs all) j d e within) i below
    where
      by : (o : Option K) → name_at names r.thing ≡ o →
          ((j : ℕ) → j < length rs → IsEntryOf names (get_or rs j e) (get_or (entries_of names rs) j d)) → (i : ℕ) → i < length (r ∷ rs) →
          IsEntryOf names (get_or (r ∷ rs) i e) (get_or (entry_of o r ++ entries_of names rs) i d)
      by None none rest i below = absurd (true≢false (sym (all.named r.thing (uses_head r rs)) ∙ ap is_some none))
      by (Some k) some rest zero below = record { name = some; holder = refl; bits = refl }
      by (Some k) some rest (suc i) below = rest i (omega arith)

  pub is_some_from_name : (eq : K → K → Bool) (thing : K) (o : Option K) → is_name eq thing o ≡ true → is_some o ≡ true
  is_some_from_name eq thing None is = absurd (true≢false (sym is))
  is_some_from_name eq thing (Some k) is = refl

  -- a name stands at some number, or is new
  pub find_name : (eq : K → K → Bool) (names : List (Option K)) (k : K) →
      ((n : ℕ) × (is_name eq k (name_at names n) ≡ true)) ⊎ IsNew eq names k
  find_name eq [] k = inr (λ n. refl)
  find_name eq (o ∷ os) k =
      elim (cases_Bool (is_name eq k o)) [
        | inl is ↦ inl (0, is)
        | inr not_is ↦ elim (find_name eq os k) [
          | inl there ↦ inl (suc there.0, there.1)
          | inr new ↦ inr (nowhere not_is new)
        ]
      ]
    where
      nowhere : is_name eq k o ≡ false → IsNew eq os k → IsNew eq (o ∷ os) k
      nowhere not_is new zero = not_is
      nowhere not_is new (suc n) = new n

module _ {K : Type 0} (eq : K → K → Bool) (names : List (Option K)) where
  -- a new thing has no entry
  pub bits_new : (rs : List Record) (h : ℕ) (thing : K) → IsNew eq names thing → bits_at eq (entries_of names rs) h thing ≡ no_bits
  bits_new [] h thing new = refl
  bits_new (r ∷ rs) h thing new = by (name_at names r.thing) (new r.thing) (bits_new rs h thing new)
    where
      by : (o : Option K) → is_name eq thing o ≡ false → bits_at eq (entries_of names rs) h thing ≡ no_bits → bits_at eq (entry_of o r ++ entries_of names rs) h thing ≡ no_bits
      by None none rest = rest
      by (Some k) other rest =
          ap (λ (b : Bool). if b then r.bits else bits_at eq (entries_of names rs) h thing) (and_right (h == r.holder) (eq thing k) other)
          ∙ rest

  pub any_new : (rs : List Record) (thing : K) → IsNew eq names thing → list_any (is_on eq thing) (entries_of names rs) ≡ false
  any_new [] thing new = refl
  any_new (r ∷ rs) thing new = by (name_at names r.thing) (new r.thing) (any_new rs thing new)
    where
      by : (o : Option K) → is_name eq thing o ≡ false → list_any (is_on eq thing) (entries_of names rs) ≡ false →
          list_any (is_on eq thing) (entry_of o r ++ entries_of names rs) ≡ false
      by None none rest = rest
      by (Some k) other rest = ap (λ (b : Bool). b || list_any (is_on eq thing) (entries_of names rs)) other ∙ rest

  -- a thing that has an entry has a number
  pub number_of_known : (rs : List Record) (thing : K) → list_any (is_on eq thing) (entries_of names rs) ≡ true →
      (n : ℕ) × (is_name eq thing (name_at names n) ≡ true)
  number_of_known rs thing known =
      elim (find_name eq names thing) [
        | inl there ↦ there
        | inr new ↦ absurd (true≢false (sym known ∙ any_new rs thing new))
      ]

  pub uses_new : (rs : List Record) (thing : K) → IsNew eq names thing → uses_in eq (entries_of names rs) thing ≡ 0
  uses_new [] thing new = refl
  uses_new (r ∷ rs) thing new = by (name_at names r.thing) (new r.thing) (uses_new rs thing new)
    where
      by : (o : Option K) → is_name eq thing o ≡ false → uses_in eq (entries_of names rs) thing ≡ 0 → uses_in eq (entry_of o r ++ entries_of names rs) thing ≡ 0
      by None none rest = rest
      by (Some k) other rest =
          sum_by-cons (λ x. one_if (is_on eq thing x)) (record { holder = r.holder; thing = k; bits = r.bits }) (entries_of names rs)
          ∙ ap (λ (b : Bool). one_if b + uses_in eq (entries_of names rs) thing) other
          ∙ omega (arith, rest)

module _ {K : Type 0} (eq : K → K → Bool) (laws : IsEquivalence eq) (names : List (Option K)) (once : HasEachOnce eq names) where
  is_name_congr : (one other : K) (o : Option K) → eq one other ≡ true → is_name eq one o ≡ is_name eq other o
  is_name_congr one other None same = refl
  is_name_congr one other (Some k) same = laws.congr one other k same

  -- the names of two numbers are equal where the numbers are
  pub same_number : (n m : ℕ) (thing k : K) → is_name eq thing (name_at names n) ≡ true → name_at names m ≡ Some k → eq thing k ≡ (n == m)
  same_number n m thing k is some =
      elim (cases_Bool (eq thing k)) [
        | inl same ↦ same ∙ sym (eq-eqb n m (sym (once m n k some (sym (is_name_congr thing k (name_at names n) same) ∙ is))))
        | inr other ↦ other ∙ sym (ne_eqb n m (λ e. true≢false
            (sym is ∙ ap (λ (x : ℕ). is_name eq thing (name_at names x)) e ∙ ap (is_name eq thing) some ∙ other)))
      ]

  -- another number than that of the thing
  other_number : (n m : ℕ) (thing : K) → is_name eq thing (name_at names n) ≡ true → name_at names m ≡ None → (n == m) ≡ false
  other_number n m thing is none =
      ne_eqb n m (λ e. true≢false (sym is ∙ ap (λ (x : ℕ). is_name eq thing (name_at names x)) e ∙ ap (is_name eq thing) none))

  -- what is held on a thing is what is held on its number
  pub bits_known : (rs : List Record) (h n : ℕ) (thing : K) → is_name eq thing (name_at names n) ≡ true →
      bits_at eq (entries_of names rs) h thing ≡ bits_in rs h n
  bits_known [] h n thing is = refl
  bits_known (r ∷ rs) h n thing is = by (name_at names r.thing) refl (bits_known rs h n thing is)
    where
      by : (o : Option K) → name_at names r.thing ≡ o → bits_at eq (entries_of names rs) h thing ≡ bits_in rs h n →
          bits_at eq (entry_of o r ++ entries_of names rs) h thing ≡ (if is_record h n r then r.bits else bits_in rs h n)
      by None none rest =
          rest
          ∙ sym (ap (λ (b : Bool). if b then r.bits else bits_in rs h n)
          (and_right (h == r.holder) (n == r.thing) (other_number n r.thing thing is none)))
      by (Some k) some rest =
          ap (λ (b : Bool). if (h == r.holder) && b then r.bits else bits_at eq (entries_of names rs) h thing) (same_number n r.thing thing k is some)
          ∙ ap (λ (x : Bits). if is_record h n r then r.bits else x) rest

  pub uses_known : (rs : List Record) (n : ℕ) (thing : K) → is_name eq thing (name_at names n) ≡ true →
      uses_in eq (entries_of names rs) thing ≡ number_uses rs n
  uses_known [] n thing is = refl
  uses_known (r ∷ rs) n thing is = by (name_at names r.thing) refl (uses_known rs n thing is)
    where
      by : (o : Option K) → name_at names r.thing ≡ o → uses_in eq (entries_of names rs) thing ≡ number_uses rs n → uses_in eq (entry_of o r ++ entries_of names rs) thing ≡ number_uses (r ∷ rs) n
      by None none rest = omega (arith, rest, uses_cons n r rs, ap one_if (other_number n r.thing thing is none))
      by (Some k) some rest =
          omega (
            arith,
            sum_by-cons (λ x. one_if (is_on eq thing x)) (record { holder = r.holder; thing = k; bits = r.bits }) (entries_of names rs),
            rest,
            uses_cons n r rs,
            ap one_if (same_number n r.thing thing k is some),
          )

  pub any_known : (rs : List Record) (n : ℕ) (thing : K) → is_name eq thing (name_at names n) ≡ true →
      list_any (is_on eq thing) (entries_of names rs) ≡ list_any (has_number n) rs
  any_known [] n thing is = refl
  any_known (r ∷ rs) n thing is = by (name_at names r.thing) refl (any_known rs n thing is)
    where
      by : (o : Option K) → name_at names r.thing ≡ o → list_any (is_on eq thing) (entries_of names rs) ≡ list_any (has_number n) rs →
          list_any (is_on eq thing) (entry_of o r ++ entries_of names rs) ≡ ((n == r.thing) || list_any (has_number n) rs)
      by None none rest =
          rest ∙ ap (λ (b : Bool). b || list_any (has_number n) rs) (sym (other_number n r.thing thing is none))
      by (Some k) some rest =
          ap (λ (b : Bool). b || list_any (is_on eq thing) (entries_of names rs)) (same_number n r.thing thing k is some)
          ∙ ap (λ (b : Bool). (n == r.thing) || b) rest

  -- a known thing is equal to another where their numbers are
  same_thing : (number n : ℕ) (thing k : K) → is_name eq thing (name_at names number) ≡ true → is_name eq k (name_at names n) ≡ true →
      eq k thing ≡ (n == number)
  same_thing number n thing k is at = by (name_at names number) refl
    where
      by : (o : Option K) → name_at names number ≡ o → eq k thing ≡ (n == number)
      by None none = absurd (true≢false (sym is ∙ ap (is_name eq thing) none))
      by (Some x) some =
          laws.symm k thing ∙ laws.congr thing x k (sym (ap (is_name eq thing) some) ∙ is) ∙ laws.symm x k ∙ same_number n number k x at some

  -- a new thing is equal to none that is known
  new_thing : (number : ℕ) (thing k : K) → is_name eq thing (name_at names number) ≡ true → IsNew eq names k → eq k thing ≡ false
  new_thing number thing k is new = by (name_at names number) refl
    where
      by : (o : Option K) → name_at names number ≡ o → eq k thing ≡ false
      by None none = absurd (true≢false (sym is ∙ ap (is_name eq thing) none))
      by (Some x) some =
          laws.symm k thing ∙ laws.congr thing x k (sym (ap (is_name eq thing) some) ∙ is) ∙ laws.symm x k
          ∙ sym (ap (is_name eq k) some) ∙ new number

  -- what is set for a number is set for its thing
  pub sets_bits : (rs after : List Record) (holder number : ℕ) (thing : K) (bits : Bits) → is_name eq thing (name_at names number) ≡ true →
      SetsRecord rs after holder number bits → SetsBits eq (entries_of names rs) (entries_of names after) holder thing bits
  sets_bits rs after holder number thing bits is sets h k =
      elim (find_name eq names k) [
        | inl there ↦
            bits_known after h there.0 k there.1
            ∙ sets h there.0
            ∙ ap (λ (b : Bool). if (h == holder) && b then bits else bits_in rs h there.0) (sym (same_thing number there.0 thing k is there.1))
            ∙ ap (λ (x : Bits). if (h == holder) && eq k thing then bits else x) (sym (bits_known rs h there.0 k there.1))
        | inr new ↦
            bits_new eq names after h k new
            ∙ sym (ap (λ (b : Bool). if b then bits else bits_at eq (entries_of names rs) h k)
            (and_right (h == holder) (eq k thing) (new_thing number thing k is new))
            ∙ bits_new eq names rs h k new)
      ]

  -- and so many entries come or go on the things
  pub uses_changed : (rs after : List Record) (number : ℕ) (thing : K) (before put : ℕ) → is_name eq thing (name_at names number) ≡ true →
      ((n : ℕ) → number_uses after n + (if n == number then before else 0) ≡ number_uses rs n + (if n == number then put else 0)) → (k : K) →
      uses_in eq (entries_of names after) k + (if eq k thing then before else 0) ≡ uses_in eq (entries_of names rs) k + (if eq k thing then put else 0)
  uses_changed rs after number thing before put is counts k =
      elim (find_name eq names k) [
        | inl there ↦
            let same = same_thing number there.0 thing k is there.1 in
            omega (
              arith,
              uses_known after there.0 k there.1,
              uses_known rs there.0 k there.1,
              counts there.0,
              ap {B = ℕ} (λ (b : Bool). if b then before else 0) same,
              ap {B = ℕ} (λ (b : Bool). if b then put else 0) same,
            )
        | inr new ↦
            let apart = new_thing number thing k is new in
            omega (
              arith,
              uses_new eq names after k new,
              uses_new eq names rs k new,
              ap {B = ℕ} (λ (b : Bool). if b then before else 0) apart,
              ap {B = ℕ} (λ (b : Bool). if b then put else 0) apart,
            )
      ]
