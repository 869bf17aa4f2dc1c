-- Objects by the numbers of their names.
use Rattle.std.proofs.Common.{◌≡◌, ◌∙◌, refl, sym, ap, ℕ, Bool, true, false, ◌<◌, ◌+◌, ◌==◌, ◌&&◌, ◌||◌, List, [], ◌∷◌, Option, None, Some, is_some, if◌then◌else◌, ◌⊎◌, inl, inr, arith}
use Rattle.std.proofs.lemmas.Bool.{cases_Bool, eq-eqb, eqb-true, and_from, and_parts, and_left, and_right, false_from_ne_true, true≢false}
use Rattle.std.proofs.lemmas.List.Sums.{sum_by-cons}
use Rattle.std.specs.List.{list_any}
use Rattle.acl_names.proofs.SameAuth.{equal_from_text_eq}
use Rattle.acl_names.specs.Text.{text_eq}
use Rattle.held_bits.specs.declared.bits.Bits.{Bits}
use Rattle.held_bits.specs.Bits.{no_bits}
use Rattle.held_bits.specs.HeldBits.{Entry, SetsBits, bits_at, is_entry, is_on}
use Rattle.held_bits.proofs.Entries.{find_name}
use Rattle.numbered_names.specs.Numbered.{HasEachOnce, IsNew, is_name, name_at}
use Rattle.object_bits.specs.Keys.{is_key, key_uses, name_or_empty, name_uses, object_of, on_object, on_objects, same_key}
use Rattle.object_bits.specs.Names.{one_if_same}
use Rattle.object_bits.specs.Objects.{same_object}
use Rattle.object_bits.specs.declared.key.Key.{Key}
use Rattle.object_bits.specs.declared.key.Key.TheVariants as key
use Rattle.object_bits.specs.declared.object.Object.{Object}
use Rattle.object_bits.specs.declared.object.Object.TheVariants.{Table, Column, Function, Procedure}

abbrev Names : Type 0
Names = List (Option (List ℕ))

-- each number of a key has a name
pub record HasNames (names : Names) (k : Key) : Type 0 where
  pub named : (n : ℕ) → 0 < key_uses n k → is_some (name_at names n) ≡ true

-- each number of the keys of entries has a name
pub record HaveNames (names : Names) (es : List (Entry Key)) : Type 0 where
  pub named : (n : ℕ) → 0 < name_uses es n → is_some (name_at names n) ≡ true

pub uses_cons : (n : ℕ) (e : Entry Key) (es : List (Entry Key)) → name_uses (e ∷ es) n ≡ key_uses n e.thing + name_uses es n
uses_cons n e es = sum_by-cons (λ x. key_uses n x.thing) e es

pub first_named : (names : Names) (e : Entry Key) (es : List (Entry Key)) → HaveNames names (e ∷ es) → HasNames names e.thing
first_named names e es all = record { named = λ n used. all.named n (omega (arith, uses_cons n e es, used)) }

pub rest_named : (names : Names) (e : Entry Key) (es : List (Entry Key)) → HaveNames names (e ∷ es) → HaveNames names es
rest_named names e es all = record { named = λ n used. all.named n (omega (arith, uses_cons n e es, used)) }

pub its_own : (n : ℕ) → one_if_same n n ≡ 1
its_own n = ap (λ (b : Bool). if b then 1 else 0) (eq-eqb n n refl)

-- a name that stands is compared as it is
by_name : (names : Names) (name : List ℕ) (n : ℕ) → is_some (name_at names n) ≡ true → text_eq name (name_or_empty (name_at names n)) ≡ is_name text_eq name (name_at names n)
by_name names name n stands = by (name_at names n) stands
  where
    by : (o : Option (List ℕ)) → is_some o ≡ true → text_eq name (name_or_empty o) ≡ is_name text_eq name o
    by None none = absurd (true≢false (sym none))
    by (Some other) some = refl

both : (a b c d : Bool) → a ≡ b → c ≡ d → (a && c) ≡ (b && d)
both a b c d one other = ap (λ x. x && c) one ∙ ap (λ x. b && x) other

-- whether an object is the one of a key, by its names
pub same_by_key : (names : Names) (o : Object) (k : Key) → HasNames names k → same_object o (object_of names k) ≡ is_key names o k
same_by_key names (Table s t) (key.Table n m) has =
    both _ _ _ _ (by_name names s n (has.named n (omega (arith, its_own n)))) (by_name names t m (has.named m (omega (arith, its_own m))))
same_by_key names (Column s t c) (key.Column n m k) has =
    both _ _ _ _
    (both _ _ _ _ (by_name names s n (has.named n (omega (arith, its_own n)))) (by_name names t m (has.named m (omega (arith, its_own m)))))
    (by_name names c k (has.named k (omega (arith, its_own k))))
same_by_key names (Function s t) (key.Function n m) has =
    both _ _ _ _ (by_name names s n (has.named n (omega (arith, its_own n)))) (by_name names t m (has.named m (omega (arith, its_own m))))
same_by_key names (Procedure s t) (key.Procedure n m) has =
    both _ _ _ _ (by_name names s n (has.named n (omega (arith, its_own n)))) (by_name names t m (has.named m (omega (arith, its_own m))))
same_by_key names _ _ has = refl

is_some_name : (name : List ℕ) (o : Option (List ℕ)) → is_name text_eq name o ≡ true → o ≡ Some name
is_some_name name None is = absurd (true≢false (sym is))
is_some_name name (Some other) is = ap Some (sym (equal_from_text_eq name other is))

module _ (names : Names) where
  name_is : (name : List ℕ) (n : ℕ) → is_name text_eq name (name_at names n) ≡ true → name ≡ name_or_empty (name_at names n)
  name_is name n is = sym (ap name_or_empty (is_some_name name (name_at names n) is))

  name_stands : (name : List ℕ) (n : ℕ) → is_name text_eq name (name_at names n) ≡ true → is_some (name_at names n) ≡ true
  name_stands name n is = ap is_some (is_some_name name (name_at names n) is)

  two_names : (object : List ℕ → List ℕ → Object) (s t : List ℕ) (n m : ℕ) →
      (is_name text_eq s (name_at names n) && is_name text_eq t (name_at names m)) ≡ true →
      object s t ≡ object (name_or_empty (name_at names n)) (name_or_empty (name_at names m))
  two_names object s t n m is =
      let parts = and_parts (is_name text_eq s (name_at names n)) (is_name text_eq t (name_at names m)) is in
      ap (λ (x : List ℕ). object x t) (name_is s n parts.0) ∙ ap (object (name_or_empty (name_at names n))) (name_is t m parts.1)

  -- the key of an object names it
  pub object_is : (o : Object) (k : Key) → is_key names o k ≡ true → o ≡ object_of names k
  object_is (Table s t) (key.Table n m) is = two_names Table s t n m is
  object_is (Column s t c) (key.Column n m k) is =
      let parts = and_parts (is_name text_eq s (name_at names n) && is_name text_eq t (name_at names m)) (is_name text_eq c (name_at names k)) is in
      two_names (λ x y. Column x y c) s t n m parts.0
      ∙ ap (Column (name_or_empty (name_at names n)) (name_or_empty (name_at names m))) (name_is c k parts.1)
  object_is (Function s f) (key.Function n m) is = two_names Function s f n m is
  object_is (Procedure s f) (key.Procedure n m) is = two_names Procedure s f n m is
  object_is _ _ is = absurd (true≢false (sym is))

  -- a number that is the last or among the rest
  last_or_rest : (n m rest : ℕ) → is_some (name_at names m) ≡ true → (0 < rest → is_some (name_at names n) ≡ true) →
      0 < rest + one_if_same n m → is_some (name_at names n) ≡ true
  last_or_rest n m rest stands earlier used =
      elim (cases_Bool (n == m)) [
        | inl same ↦ ap (λ (x : ℕ). is_some (name_at names x)) (eqb-true n m same) ∙ stands
        | inr apart ↦
            let none : one_if_same n m ≡ 0 = ap (λ (b : Bool). if b then 1 else 0) apart in
            earlier (omega (arith, used, none))
      ]

  two_stand : (s t : List ℕ) (n m x : ℕ) → (is_name text_eq s (name_at names n) && is_name text_eq t (name_at names m)) ≡ true →
      0 < one_if_same x n + one_if_same x m → is_some (name_at names x) ≡ true
  two_stand s t n m x is used =
      let parts = and_parts (is_name text_eq s (name_at names n)) (is_name text_eq t (name_at names m)) is in
      last_or_rest x m (one_if_same x n) (name_stands t m parts.1)
      (λ more. last_or_rest x n 0 (name_stands s n parts.0) (λ none. absurd (omega (arith, none))) (omega (arith, more))) used

  -- a column that has a key has three numbers
  pub column_numbers : (s t c : List ℕ) (k : Key) → is_key names (Column s t c) k ≡ true →
      (n : ℕ) × (m : ℕ) × (x : ℕ) × (name_at names n ≡ Some s) × (name_at names m ≡ Some t) × (name_at names x ≡ Some c)
  column_numbers s t c (key.Column n m x) is =
      let outer = and_parts (is_name text_eq s (name_at names n) && is_name text_eq t (name_at names m)) (is_name text_eq c (name_at names x)) is in
      let inner = and_parts (is_name text_eq s (name_at names n)) (is_name text_eq t (name_at names m)) outer.0 in (
        n,
        m,
        x,
        is_some_name s (name_at names n) inner.0,
        is_some_name t (name_at names m) inner.1,
        is_some_name c (name_at names x) outer.1,
      )
  column_numbers s t c _ is = absurd (true≢false (sym is))

  -- and each of its numbers has a name
  pub has_names : (o : Object) (k : Key) → is_key names o k ≡ true → HasNames names k
  has_names o k is = record { named = λ n used. by o k n is used }
    where
      by : (o : Object) (k : Key) (x : ℕ) → is_key names o k ≡ true → 0 < key_uses x k → is_some (name_at names x) ≡ true
      by (Table s t) (key.Table n m) x is used = two_stand s t n m x is used
      by (Column s t c) (key.Column n m k) x is used =
          let parts = and_parts (is_name text_eq s (name_at names n) && is_name text_eq t (name_at names m)) (is_name text_eq c (name_at names k)) is in
          last_or_rest x k (one_if_same x n + one_if_same x m) (name_stands c k parts.1) (λ more. two_stand s t n m x parts.0 more) used
      by (Function s f) (key.Function n m) x is used = two_stand s f n m x is used
      by (Procedure s f) (key.Procedure n m) x is used = two_stand s f n m x is used
      by _ _ x is used = absurd (true≢false (sym is))

  -- two names have numbers, or no two numbers are theirs
  find_two : (s t : List ℕ) →
      ((n : ℕ) × (m : ℕ) × ((is_name text_eq s (name_at names n) && is_name text_eq t (name_at names m)) ≡ true))
      ⊎ ((n m : ℕ) → (is_name text_eq s (name_at names n) && is_name text_eq t (name_at names m)) ≡ false)
  find_two s t =
      elim (find_name text_eq names s) [
        | inl one ↦ elim (find_name text_eq names t) [
          | inl other ↦ inl (one.0, other.0, and_from (is_name text_eq s (name_at names one.0)) (is_name text_eq t (name_at names other.0)) one.1 other.1)
          | inr new ↦ inr (λ n m. and_right (is_name text_eq s (name_at names n)) (is_name text_eq t (name_at names m)) (new m))
        ]
        | inr new ↦ inr (λ n m. and_left (is_name text_eq s (name_at names n)) (is_name text_eq t (name_at names m)) (new n))
      ]

  -- an object has a key, or no key names it
  pub find_key : (o : Object) → ((k : Key) × (is_key names o k ≡ true)) ⊎ ((k : Key) → is_key names o k ≡ false)
  find_key (Table s t) =
      elim (find_two s t) [
        | inl two ↦ inl (key.Table two.0 two.1, two.2)
        | inr new ↦ inr (none new)
      ]
    where
      none : ((n m : ℕ) → (is_name text_eq s (name_at names n) && is_name text_eq t (name_at names m)) ≡ false) → (k : Key) → is_key names (Table s t) k ≡ false
      none new (key.Table n m) = new n m
      none new _ = refl
  find_key (Column s t c) =
      elim (find_two s t) [
        | inl two ↦ elim (find_name text_eq names c) [
          | inl last ↦ inl (
            key.Column two.0 two.1 last.0,
            and_from (is_name text_eq s (name_at names two.0) && is_name text_eq t (name_at names two.1)) (is_name text_eq c (name_at names last.0)) two.2 last.1,
          )
          | inr new ↦ inr (no_last new)
        ]
        | inr new ↦ inr (none new)
      ]
    where
      none : ((n m : ℕ) → (is_name text_eq s (name_at names n) && is_name text_eq t (name_at names m)) ≡ false) → (k : Key) → is_key names (Column s t c) k ≡ false
      none new (key.Column n m k) =
          and_left (is_name text_eq s (name_at names n) && is_name text_eq t (name_at names m)) (is_name text_eq c (name_at names k)) (new n m)
      none new _ = refl

      no_last : IsNew text_eq names c → (k : Key) → is_key names (Column s t c) k ≡ false
      no_last new (key.Column n m k) =
          and_right (is_name text_eq s (name_at names n) && is_name text_eq t (name_at names m)) (is_name text_eq c (name_at names k)) (new k)
      no_last new _ = refl
  find_key (Function s t) =
      elim (find_two s t) [
        | inl two ↦ inl (key.Function two.0 two.1, two.2)
        | inr new ↦ inr (none new)
      ]
    where
      none : ((n m : ℕ) → (is_name text_eq s (name_at names n) && is_name text_eq t (name_at names m)) ≡ false) → (k : Key) → is_key names (Function s t) k ≡ false
      none new (key.Function n m) = new n m
      none new _ = refl
  find_key (Procedure s t) =
      elim (find_two s t) [
        | inl two ↦ inl (key.Procedure two.0 two.1, two.2)
        | inr new ↦ inr (none new)
      ]
    where
      none : ((n m : ℕ) → (is_name text_eq s (name_at names n) && is_name text_eq t (name_at names m)) ≡ false) → (k : Key) → is_key names (Procedure s t) k ≡ false
      none new (key.Procedure n m) = new n m
      none new _ = refl

  -- an object without a key holds nothing
  pub bits_new : (es : List (Entry Key)) → HaveNames names es → (h : ℕ) (o : Object) → ((k : Key) → is_key names o k ≡ false) →
      bits_at same_object (on_objects names es) h o ≡ no_bits
  bits_new [] all h o new = refl
  bits_new (e ∷ es) all h o new =
      ap (λ (b : Bool). if b then e.bits else bits_at same_object (on_objects names es) h o)
      (and_right (h == e.holder) (same_object o (object_of names e.thing)) (same_by_key names o e.thing (first_named names e es all) ∙ new e.thing))
      ∙ bits_new es (rest_named names e es all) h o new

  none_on : (es : List (Entry Key)) → HaveNames names es → (o : Object) → ((k : Key) → is_key names o k ≡ false) →
      list_any (is_on same_object o) (on_objects names es) ≡ false
  none_on [] all o new = refl
  none_on (e ∷ es) all o new =
      ap (λ (b : Bool). b || list_any (is_on same_object o) (on_objects names es))
      (same_by_key names o e.thing (first_named names e es all) ∙ new e.thing)
      ∙ none_on es (rest_named names e es all) o new

  -- an object that something is held on has a key
  pub known_key : (es : List (Entry Key)) → HaveNames names es → (o : Object) → list_any (is_on same_object o) (on_objects names es) ≡ true →
      (k : Key) × (is_key names o k ≡ true)
  known_key es all o held =
      elim (find_key o) [
        | inl there ↦ there
        | inr new ↦ absurd (true≢false (sym held ∙ none_on es all o new))
      ]

  module _ (once : HasEachOnce text_eq names) where
    -- a name has one number
    one_number : (name : List ℕ) (n m : ℕ) → is_name text_eq name (name_at names n) ≡ true → is_name text_eq name (name_at names m) ≡ (n == m)
    one_number name n m is =
        elim (cases_Bool (is_name text_eq name (name_at names m))) [
          | inl also ↦ also ∙ sym (eq-eqb n m (once n m name (is_some_name name (name_at names n) is) also))
          | inr not_also ↦ not_also ∙ sym (false_from_ne_true (n == m) (λ same. true≢false
              (sym is ∙ ap (λ (x : ℕ). is_name text_eq name (name_at names x)) (eqb-true n m same) ∙ not_also)))
        ]

    two_numbers : (s t : List ℕ) (n m x y : ℕ) → (is_name text_eq s (name_at names n) && is_name text_eq t (name_at names m)) ≡ true →
        (is_name text_eq s (name_at names x) && is_name text_eq t (name_at names y)) ≡ ((n == x) && (m == y))
    two_numbers s t n m x y is =
        let parts = and_parts (is_name text_eq s (name_at names n)) (is_name text_eq t (name_at names m)) is in
        both _ _ _ _ (one_number s n x parts.0) (one_number t m y parts.1)

    -- an object has one key
    pub one_key : (o : Object) (k other : Key) → is_key names o k ≡ true → is_key names o other ≡ same_key k other
    one_key (Table s t) (key.Table n m) other is = by other
      where
        by : (other : Key) → is_key names (Table s t) other ≡ same_key (key.Table n m) other
        by (key.Table x y) = two_numbers s t n m x y is
        by _ = refl
    one_key (Column s t c) (key.Column n m k) other is = by other
      where
        by : (other : Key) → is_key names (Column s t c) other ≡ same_key (key.Column n m k) other
        by (key.Column x y z) =
            let parts = and_parts (is_name text_eq s (name_at names n) && is_name text_eq t (name_at names m)) (is_name text_eq c (name_at names k)) is in
            both _ _ _ _ (two_numbers s t n m x y parts.0) (one_number c k z parts.1)
        by _ = refl
    one_key (Function s t) (key.Function n m) other is = by other
      where
        by : (other : Key) → is_key names (Function s t) other ≡ same_key (key.Function n m) other
        by (key.Function x y) = two_numbers s t n m x y is
        by _ = refl
    one_key (Procedure s t) (key.Procedure n m) other is = by other
      where
        by : (other : Key) → is_key names (Procedure s t) other ≡ same_key (key.Procedure n m) other
        by (key.Procedure x y) = two_numbers s t n m x y is
        by _ = refl
    one_key _ _ other is = absurd (true≢false (sym is))

    -- what is held on an object is what is held on its key
    pub bits_known : (es : List (Entry Key)) → HaveNames names es → (h : ℕ) (o : Object) (k : Key) → is_key names o k ≡ true →
        bits_at same_object (on_objects names es) h o ≡ bits_at same_key es h k
    bits_known [] all h o k is = refl
    bits_known (e ∷ es) all h o k is =
        ap (λ (b : Bool). if (h == e.holder) && b then e.bits else bits_at same_object (on_objects names es) h o)
        (same_by_key names o e.thing (first_named names e es all) ∙ one_key o k e.thing is)
        ∙ ap (λ (b : Bits). if is_entry same_key h k e then e.bits else b) (bits_known es (rest_named names e es all) h o k is)

    -- something is held on an object where it is on its key
    pub any_known : (es : List (Entry Key)) → HaveNames names es → (o : Object) (k : Key) → is_key names o k ≡ true →
        list_any (is_on same_object o) (on_objects names es) ≡ list_any (is_on same_key k) es
    any_known [] all o k is = refl
    any_known (e ∷ es) all o k is =
        ap (λ (b : Bool). b || list_any (is_on same_object o) (on_objects names es))
        (same_by_key names o e.thing (first_named names e es all) ∙ one_key o k e.thing is)
        ∙ ap (λ (b : Bool). same_key k e.thing || b) (any_known es (rest_named names e es all) o k is)

    -- another object is the same where the key is its key
    same_known : (o x : Object) (k : Key) → is_key names o k ≡ true → same_object x o ≡ is_key names x k
    same_known o x k is = ap (same_object x) (object_is o k is) ∙ same_by_key names x k (has_names o k is)

    -- what is set for a key is set for its object
    pub sets_objects : (old new : List (Entry Key)) → HaveNames names old → HaveNames names new → (holder : ℕ) (o : Object) (k : Key) (bits : Bits) →
        is_key names o k ≡ true → SetsBits same_key old new holder k bits →
        SetsBits same_object (on_objects names old) (on_objects names new) holder o bits
    sets_objects old new all also holder o k bits is sets h x =
        elim (find_key x) [
          | inl there ↦
              bits_known new also h x there.0 there.1
              ∙ sets h there.0
              ∙ ap (λ (b : Bool). if (h == holder) && b then bits else bits_at same_key old h there.0)
              (sym (same_known o x k is ∙ one_key x there.0 k there.1))
              ∙ ap (λ (b : Bits). if (h == holder) && same_object x o then bits else b) (sym (bits_known old all h x there.0 there.1))
          | inr new_one ↦
              bits_new new also h x new_one
              ∙ sym (ap (λ (b : Bool). if b then bits else bits_at same_object (on_objects names old) h x)
              (and_right (h == holder) (same_object x o) (same_known o x k is ∙ new_one k))
              ∙ bits_new old all h x new_one)
        ]

-- names of numbers that keys have alone matter
object_kept : (names after : Names) (k : Key) → ((n : ℕ) → 0 < key_uses n k → name_at after n ≡ name_at names n) → object_of after k ≡ object_of names k
object_kept names after (key.Table n m) same =
    let one = same n (omega (arith, its_own n)) in
    let other = same m (omega (arith, its_own m)) in
    rw (one, other) refl
object_kept names after (key.Column n m k) same =
    let one = same n (omega (arith, its_own n)) in
    let other = same m (omega (arith, its_own m)) in
    let last = same k (omega (arith, its_own k)) in
    rw (one, other, last) refl
object_kept names after (key.Function n m) same =
    let one = same n (omega (arith, its_own n)) in
    let other = same m (omega (arith, its_own m)) in
    rw (one, other) refl
object_kept names after (key.Procedure n m) same =
    let one = same n (omega (arith, its_own n)) in
    let other = same m (omega (arith, its_own m)) in
    rw (one, other) refl

pub objects_kept : (names after : Names) (es : List (Entry Key)) → ((n : ℕ) → 0 < name_uses es n → name_at after n ≡ name_at names n) →
    on_objects after es ≡ on_objects names es
objects_kept names after [] same = refl
objects_kept names after (e ∷ es) same =
    ap (λ (o : Object). record { holder = e.holder; thing = o; bits = e.bits } ∷ on_objects after es)
    (object_kept names after e.thing (λ n used. same n (omega (arith, uses_cons n e es, used))))
    ∙ ap (λ (l : List (Entry Object)). on_object names e ∷ l)
    (objects_kept names after es (λ n used. same n (omega (arith, uses_cons n e es, used))))
