-- Entries on objects are as sound as entries on keys, and stand at the same places.
use Rattle.std.proofs.Common.{◌≡◌, ◌∙◌, refl, sym, ap, ℕ, zero, suc, Bool, true, false, ◌<◌, ◌==◌, ◌&&◌, List, [], ◌∷◌, length, get_or, slice_get, Option, Some, is_some, arith}
use Rattle.std.proofs.lemmas.Bool.{and_from}
use Rattle.std.proofs.lemmas.List.{get_or-map, length-map}
use Rattle.std.proofs.lemmas.Option.{get_or_from_slice_get, same_Some, slice_get_within}
use Rattle.std.specs.List.{All}
use Rattle.std.specs.Cmp.{IsEquivalence}
use Rattle.acl_names.specs.Text.{text_eq}
use Rattle.held_bits.specs.declared.bits.Bits.{Bits}
use Rattle.held_bits.specs.Bits.{are_none, no_bits}
use Rattle.held_bits.specs.HeldBits.{Entry, IsFirstOf, IsSound, bits_at, is_entry}
use Rattle.held_bits.proofs.Readings.{bits_of_entry}
use Rattle.numbered_names.specs.Numbered.{HasEachOnce, name_at}
use Rattle.object_bits.specs.Keys.{has_names, object_of, on_object, on_objects, same_key}
use Rattle.object_bits.specs.Kept.{only_granted}
use Rattle.object_bits.specs.Objects.{same_object}
use Rattle.object_bits.specs.declared.key.Key.{Key}
use Rattle.object_bits.specs.declared.key.Key.TheVariants as key
use Rattle.object_bits.specs.declared.object.Object.{Object}
use Rattle.object_bits.proofs.Objects.{HasNames, HaveNames, first_named, its_own, one_key, rest_named, same_by_key}
use Rattle.object_bits.proofs.SameKeys.{equal_from_same_key, same_key_itself}
use Rattle.object_bits.proofs.SameObjects.{same_object_itself}

abbrev Names : Type 0
Names = List (Option (List ℕ))

-- an entry, for places where there is none
abbrev no_entry : Entry Key
no_entry = record { holder = 0; thing = key.Table 0 0; bits = no_bits }

same_both : (a b : Bool) → (a ≡ true → b ≡ true) → (b ≡ true → a ≡ true) → a ≡ b
same_both true b to from = sym (to refl)
same_both false true to from = from refl
same_both false false to from = refl

pub key_laws : IsEquivalence same_key
key_laws = record {
  refl = same_key_itself;
  symm = λ x y. same_both (same_key x y) (same_key y x) (turned x y) (turned y x);
  congr = λ x y z same. ap (λ k. same_key k z) (equal_from_same_key x y same);
}
  where
    turned : (x y : Key) → same_key x y ≡ true → same_key y x ≡ true
    turned x y same = ap (λ k. same_key k x) (sym (equal_from_same_key x y same)) ∙ same_key_itself x

-- each number of a key that has names has one
pub all_named : (names : Names) (k : Key) → HasNames names k → has_names names k ≡ true
all_named names (key.Table n m) has =
    and_from (is_some (name_at names n)) (is_some (name_at names m)) (has.named n (omega (arith, its_own n))) (has.named m (omega (arith, its_own m)))
all_named names (key.Column n m k) has =
    and_from (is_some (name_at names n) && is_some (name_at names m)) (is_some (name_at names k))
    (and_from (is_some (name_at names n)) (is_some (name_at names m)) (has.named n (omega (arith, its_own n))) (has.named m (omega (arith, its_own m))))
    (has.named k (omega (arith, its_own k)))
all_named names (key.Function n m) has =
    and_from (is_some (name_at names n)) (is_some (name_at names m)) (has.named n (omega (arith, its_own n))) (has.named m (omega (arith, its_own m)))
all_named names (key.Procedure n m) has =
    and_from (is_some (name_at names n)) (is_some (name_at names m)) (has.named n (omega (arith, its_own n))) (has.named m (omega (arith, its_own m)))

module _ (names : Names) where
  entry_named : (es : List (Entry Key)) → HaveNames names es → (i : ℕ) (d : Entry Key) → i < length es → HasNames names (get_or es i d).thing
  entry_named [] all i d below = absurd (omega arith)
  entry_named (e ∷ es) all zero d below = first_named names e es all
  entry_named (e ∷ es) all (suc i) d below = entry_named es (rest_named names e es all) i d (omega arith)

  -- the entry on an object at a place is that on its key
  at : (es : List (Entry Key)) (i : ℕ) (d : Entry Object) → i < length (on_objects names es) → get_or (on_objects names es) i d ≡ on_object names (get_or es i no_entry)
  at es i d below = get_or-map (on_object names) es i no_entry d (inside es i below)
    where
      inside : (es : List (Entry Key)) (i : ℕ) → i < length (on_objects names es) → i < length es
      inside es i below = omega (arith, length-map es (on_object names))

  pub read_at : (es : List (Entry Key)) (i : ℕ) (e : Entry Key) → slice_get es i ≡ Some e → slice_get (on_objects names es) i ≡ Some (on_object names e)
  read_at [] i e found = absurd (omega (arith, slice_get_within [] i e found))
  read_at (x ∷ xs) zero e found = ap {B = Option (Entry Object)} (λ (y : Entry Key). Some (on_object names y)) (same_Some x e found)
  read_at (x ∷ xs) (suc i) e found = read_at xs i e found

  -- entries begin at the same places
  pub first_moved : (es : List (Entry Key)) (holder place : ℕ) → IsFirstOf es holder place → IsFirstOf (on_objects names es) holder place
  first_moved es holder place first = record {
    inside = omega (arith, first.inside, length-map es (on_object names));
    before = λ k d low high.
        omega (
          arith,
          first.before k no_entry low high,
          ap (λ (e : Entry Object). e.holder) (at es k d (omega (arith, high, first.inside, length-map es (on_object names)))),
        );
    after = λ k d low high.
        omega (
          arith,
          first.after k no_entry low (omega (arith, high, length-map es (on_object names))),
          ap (λ (e : Entry Object). e.holder) (at es k d high),
        );
  }

  module _ (es : List (Entry Key)) (all : HaveNames names es) where
    there : (i : ℕ) → i < length (on_objects names es) → i < length es
    there i below = omega (arith, below, length-map es (on_object names))

    -- entries on objects are of one pair where those on keys are
    same_pair : HasEachOnce text_eq names → (i j : ℕ) → i < length es → j < length es →
        is_entry same_object (get_or es i no_entry).holder (object_of names (get_or es i no_entry).thing) (on_object names (get_or es j no_entry))
        ≡ is_entry same_key (get_or es i no_entry).holder (get_or es i no_entry).thing (get_or es j no_entry)
    same_pair once i j below also =
        let one = (get_or es i no_entry).thing in
        let other = (get_or es j no_entry).thing in
        let o = object_of names one in
        ap (λ (b : Bool). ((get_or es i no_entry).holder == (get_or es j no_entry).holder) && b)
        (same_by_key names o other (entry_named es all j no_entry also)
        ∙ one_key names once o one other (sym (same_by_key names o one (entry_named es all i no_entry below)) ∙ same_object_itself o))

    pub sound_moved : HasEachOnce text_eq names → IsSound same_key es → IsSound same_object (on_objects names es)
    sound_moved once sound = record {
      once = λ i j d less below.
          let first : i < length (on_objects names es) = omega (arith, less, below) in
          ap (λ (e : Entry Object). is_entry same_object e.holder e.thing (get_or (on_objects names es) j d)) (at es i d first)
          ∙ ap (λ (e : Entry Object). is_entry same_object (get_or es i no_entry).holder (object_of names (get_or es i no_entry).thing) e) (at es j d below)
          ∙ same_pair once i j (there i first) (there j below) ∙ sound.once i j no_entry less (there j below);
      some = λ i d below. ap (λ (e : Entry Object). are_none e.bits) (at es i d below) ∙ sound.some i no_entry (there i below);
      ordered = λ i j d less below.
          let first : i < length (on_objects names es) = omega (arith, less, below) in
          omega (
            arith,
            sound.ordered i j no_entry less (there j below),
            ap (λ (e : Entry Object). e.holder) (at es i d first),
            ap (λ (e : Entry Object). e.holder) (at es j d below),
          );
      within = λ i d below.
          let fits = sound.within i no_entry (there i below) in
          let same = at es i d below in (
            omega (arith, ap (λ (e : Entry Object). e.holder) same, fits.0),
            (
              omega (arith, ap (λ (e : Entry Object). e.bits.granted) same, fits.1.0),
              omega (arith, ap (λ (e : Entry Object). e.bits.restricted) same, fits.1.1),
            ),
          );
    }

-- no entry is restricted where nothing is
pub entry_unrestricted : (es : List (Entry Key)) → IsSound same_key es → ((h : ℕ) (k : Key) → (bits_at same_key es h k).restricted ≡ 0) →
    (i : ℕ) (d : Entry Key) → i < length es → (get_or es i d).bits.restricted ≡ 0
entry_unrestricted es sound none i d below =
    ap (λ (b : Bits). b.restricted) (sym (bits_of_entry same_key key_laws es sound i d below))
    ∙ none (get_or es i d).holder (get_or es i d).thing

pub all_unrestricted : (names : Names) (es : List (Entry Key)) → IsSound same_key es → ((h : ℕ) (k : Key) → (bits_at same_key es h k).restricted ≡ 0) →
    All (λ (e : Entry Object). e.bits.restricted ≡ 0) (on_objects names es)
all_unrestricted names es sound none i d below =
    ap (λ (e : Entry Object). e.bits.restricted) (at names es i d below)
    ∙ entry_unrestricted es sound none i no_entry (omega (arith, below, length-map es (on_object names)))

-- an entry on a key, as it is read
pub read_entry : (names : Names) (es : List (Entry Key)) (place holder : ℕ) (k : Key) (bits : Bits) (o : Object) → IsSound same_key es →
    ((h : ℕ) (x : Key) → (bits_at same_key es h x).restricted ≡ 0) → slice_get es place ≡ Some (record { holder = holder; thing = k; bits = bits }) →
    o ≡ object_of names k → slice_get (on_objects names es) place ≡ Some (record { holder = holder; thing = o; bits = only_granted bits.granted })
read_entry names es place holder k bits o sound none found object =
    read_at names es place (record { holder = holder; thing = k; bits = bits }) found
    ∙ ap {B = Option (Entry Object)} (λ (r : ℕ). Some (record { holder = holder; thing = object_of names k; bits = record { granted = bits.granted; restricted = r } })) no_restricted
    ∙ ap {B = Option (Entry Object)} (λ (x : Object). Some (record { holder = holder; thing = x; bits = only_granted bits.granted })) (sym object)
  where
    entry : Entry Key
    entry = record { holder = holder; thing = k; bits = bits }

    no_restricted : bits.restricted ≡ 0
    no_restricted =
        ap (λ (e : Entry Key). e.bits.restricted) (sym (get_or_from_slice_get es place entry no_entry found))
        ∙ entry_unrestricted es sound none place no_entry (slice_get_within es place entry found)

-- each entry has an object
pub entry_has_names : (names : Names) (es : List (Entry Key)) → HaveNames names es → (place holder : ℕ) (k : Key) (bits : Bits) →
    slice_get es place ≡ Some (record { holder = holder; thing = k; bits = bits }) → has_names names k ≡ true
entry_has_names names es all place holder k bits found =
    sym (ap (λ (e : Entry Key). has_names names e.thing) (get_or_from_slice_get es place entry no_entry found))
    ∙ all_named names (get_or es place no_entry).thing (entry_named names es all place no_entry (slice_get_within es place entry found))
  where
    entry : Entry Key
    entry = record { holder = holder; thing = k; bits = bits }
