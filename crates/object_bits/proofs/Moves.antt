-- What a write on a key does to what is held on objects, where names come and go.
use Rattle.std.proofs.Common.{◌≡◌, ◌∙◌, refl, sym, ap, subst, ℕ, Bool, true, false, ◌<◌, ◌≤◌, ◌+◌, ◌-◌, ◌/◌, ◌^◌, ◌==◌, ◌&&◌, List, length, get_or, min, Option, is_some, if◌then◌else◌, inl, inr, arith}
use Rattle.std.proofs.lemmas.Bool.{cases_Bool, and_parts, eqb-true, lt-ltb, true_from_ne_false, true≢false}
use Rattle.std.proofs.lemmas.Grind.{common_steps}
use Rattle.std.proofs.lemmas.List.{length-map}
use Rattle.std.proofs.lemmas.List.Sums.{sum_by-le}
use Rattle.std.specs.List.{list_any}
use Rattle.acl_names.specs.Text.{text_eq}
use Rattle.held_bits.specs.declared.bits.Bits.{Bits}
use Rattle.held_bits.specs.Bits.{are_none, record_count}
use Rattle.held_bits.specs.HeldBits.{Entry, SetsBits, bits_at, is_on}
use Rattle.held_bits.proofs.Writes.{none_is}
use Rattle.numbered_names.specs.Numbered.{HasEachOnce, name_at}
use Rattle.object_bits.specs.Keys.{is_key, key_uses, name_uses, on_object, on_objects, same_key}
use Rattle.object_bits.specs.Kept.{IsKept, IsSet, uses_with}
use Rattle.object_bits.specs.Names.{IsCounted, one_if_same}
use Rattle.object_bits.specs.Objects.{same_object}
use Rattle.object_bits.specs.declared.key.Key.{Key}
use Rattle.object_bits.specs.declared.key.Key.TheVariants as key
use Rattle.object_bits.specs.declared.object.Object.{Object}
use Rattle.object_bits.proofs.Objects.{HaveNames, any_known, bits_known, known_key, objects_kept, sets_objects}
use Rattle.object_bits.proofs.SameObjects.{equal_from_same_object}

abbrev Names : Type 0
Names = List (Option (List ℕ))

-- names that are used at least as often as keys have them
pub have_names : (names : Names) (uses : List ℕ) (es : List (Entry Key)) → IsCounted names uses → ((n : ℕ) → name_uses es n ≤ get_or uses n 0) → HaveNames names es
have_names names uses es counted enough =
    record { named = λ n used. counted.stands n ∙ lt-ltb 0 (get_or uses n 0) (omega (arith, enough n, used)) }

pub kept_names : (names : Names) (uses : List ℕ) (es : List (Entry Key)) → IsCounted names uses → IsKept uses es → HaveNames names es
kept_names names uses es counted kept = have_names names uses es counted (λ n. omega (arith, kept.counts n))

-- one number counts once at most in each of the names of a key
at_most_one : (n m : ℕ) → one_if_same n m ≤ 1
at_most_one n m = by (n == m)
  where
    by : (b : Bool) → (if b then 1 else 0) ≤ 1
    by true = omega arith
    by false = omega arith

at_most_three : (n : ℕ) (k : Key) → key_uses n k ≤ 3
at_most_three n (key.Table s t) = omega (arith, at_most_one n s, at_most_one n t)
at_most_three n (key.Column s t c) = omega (arith, at_most_one n s, at_most_one n t, at_most_one n c)
at_most_three n (key.Function s f) = omega (arith, at_most_one n s, at_most_one n f)
at_most_three n (key.Procedure s f) = omega (arith, at_most_one n s, at_most_one n f)

pub few_uses : (uses : List ℕ) (es : List (Entry Key)) → IsKept uses es → (n : ℕ) → get_or uses n 0 < 2 ^ 64 - 3
few_uses uses es kept n =
    omega (
      arith,
      kept.counts n,
      kept.few,
      sum_by-le (λ (e : Entry Key). key_uses n e.thing) 3 es (λ i d below. at_most_three n (get_or es i d).thing),
    )

-- what is held on one object was set, and all else stays
pub record IsMoved (before after : List (Entry Object)) (holder : ℕ) (object : Object) (bits : Bits) : Type 0 where
  pub sets : SetsBits same_object before after holder object bits
  pub count : length after + record_count (bits_at same_object before holder object) ≡ length before + record_count bits

-- names before, names by which a key is found, and names after
module _ (names middle after : Names) (old new : List (Entry Key)) (given : List (Entry Object)) (holder : ℕ) (object : Object) (key : Key) (bits : Bits)
    (seen : on_objects names old ≡ given) (once : HasEachOnce text_eq middle) (is : is_key middle object key ≡ true)
    (all : HaveNames middle old) (also : HaveNames middle new)
    (stood : (n : ℕ) → 0 < name_uses old n → name_at middle n ≡ name_at names n)
    (stay : (n : ℕ) → 0 < name_uses new n → name_at after n ≡ name_at middle n)
    (set : IsSet old new holder key bits) where
  before : on_objects middle old ≡ given
  before = objects_kept names middle old stood ∙ seen

  sets_moved : SetsBits same_object given (on_objects after new) holder object bits
  sets_moved =
      subst (λ (es : List (Entry Object)). SetsBits same_object es (on_objects after new) holder object bits) before
      (subst (λ (es : List (Entry Object)). SetsBits same_object (on_objects middle old) es holder object bits)
      (sym (objects_kept middle after new stay))
      (sets_objects middle once old new all also holder object key bits is set.sets))

  held_moved : bits_at same_object given holder object ≡ bits_at same_key old holder key
  held_moved =
      ap (λ (es : List (Entry Object)). bits_at same_object es holder object) (sym before)
      ∙ bits_known middle once old all holder object key is

  count_moved : length (on_objects after new) + record_count (bits_at same_object given holder object) ≡ length given + record_count bits
  count_moved =
      omega (
        arith,
        length-map new (on_object after),
        length-map old (on_object names),
        ap (λ (es : List (Entry Object)). length es) seen,
        ap record_count held_moved,
        set.count,
      )

  pub moved : IsMoved given (on_objects after new) holder object bits
  moved = record { sets = sets_moved; count = count_moved }

-- how often a key counts with bits that are none or some
none_used : (bits : Bits) (uses : ℕ) → are_none bits ≡ true → uses_with bits uses ≡ 0
none_used bits uses none = ap (λ (b : Bool). if b then 0 else uses) none

some_used : (bits : Bits) (uses : ℕ) → are_none bits ≡ false → uses_with bits uses ≡ uses
some_used bits uses some = ap (λ (b : Bool). if b then 0 else uses) some

used_at_most : (bits : Bits) (uses : ℕ) → uses_with bits uses ≤ uses
used_at_most bits uses = by (are_none bits)
  where
    by : (b : Bool) → (if b then 0 else uses) ≤ uses
    by true = omega arith
    by false = omega arith

-- something is set on a key that was found, and held something
module _ (names : Names) (uses : List ℕ) (old new : List (Entry Key)) (given : List (Entry Object)) (holder : ℕ) (object : Object) (key : Key) (bits : Bits)
    (seen : on_objects names old ≡ given) (counted : IsCounted names uses) (once : HasEachOnce text_eq names) (kept : IsKept uses old)
    (is : is_key names object key ≡ true) (set : IsSet old new holder key bits) (held : are_none (bits_at same_key old holder key) ≡ false) where
  enough : (n : ℕ) → name_uses new n ≤ get_or uses n 0
  enough n =
      omega (arith, set.uses n, kept.counts n, some_used (bits_at same_key old holder key) (key_uses n key) held, used_at_most bits (key_uses n key))

  -- other bits are held
  pub changed : IsMoved given (on_objects names new) holder object bits
  changed =
      moved names names names old new given holder object key bits seen once is (kept_names names uses old counted kept)
      (have_names names uses new counted enough) (λ n used. refl) (λ n used. refl) set

  -- nothing is held, and the names go where they are not used
  pub cleared : (after : Names) (after_uses : List ℕ) → are_none bits ≡ true →
      ((n : ℕ) → get_or after_uses n 0 + key_uses n key ≡ get_or uses n 0) →
      ((n : ℕ) → 0 < get_or after_uses n 0 → name_at after n ≡ name_at names n) → IsMoved given (on_objects after new) holder object bits
  cleared after after_uses none back stay =
      moved names names after old new given holder object key bits seen once is (kept_names names uses old counted kept)
      (have_names names uses new counted enough) (λ n used. refl)
      (λ n used. stay n (omega (
        arith,
        used,
        back n,
        set.uses n,
        kept.counts n,
        some_used (bits_at same_key old holder key) (key_uses n key) held,
        none_used bits (key_uses n key) none,
      ))) set

-- room that both tables keep is kept
both_stay : (one other room after : ℕ) → one ≤ other → room ≤ after → min one (room / 3) ≤ min other (after / 3)
both_stay one other room after more also = grind (arith, common_steps)

-- something is set on a key whose names were taken
module _ (names middle : Names) (uses middle_uses : List ℕ) (old new : List (Entry Key)) (given : List (Entry Object)) (holder : ℕ) (object : Object)
    (key : Key) (bits : Bits) (seen : on_objects names old ≡ given) (counted : IsCounted names uses) (also : IsCounted middle middle_uses)
    (once : HasEachOnce text_eq middle) (kept : IsKept uses old) (is : is_key middle object key ≡ true)
    (taken : (n : ℕ) → get_or middle_uses n 0 ≡ get_or uses n 0 + key_uses n key)
    (stood : (n : ℕ) → is_some (name_at names n) ≡ true → name_at middle n ≡ name_at names n) (set : IsSet old new holder key bits) where
  old_named : HaveNames middle old
  old_named = have_names middle middle_uses old also (λ n. omega (arith, taken n, kept.counts n))

  new_named : HaveNames middle new
  new_named =
      have_names middle middle_uses new also
      (λ n. omega (arith, taken n, kept.counts n, set.uses n, used_at_most bits (key_uses n key)))

  stands : (n : ℕ) → 0 < name_uses old n → name_at middle n ≡ name_at names n
  stands n used = stood n ((kept_names names uses old counted kept).named n used)

  -- where something is held on the object, it is on its key, whose names stood before
  pub room_stays : (one other room after_room : ℕ) → (list_any (is_on same_key key) old ≡ true → one ≤ other) →
      ((k : Key) → is_key names object k ≡ true → room ≤ after_room) → list_any (is_on same_object object) given ≡ true →
      min one (room / 3) ≤ min other (after_room / 3)
  room_stays one other room after_room known stays held =
      let found =
      known_key names old (kept_names names uses old counted kept) object
      (ap (λ (es : List (Entry Object)). list_any (is_on same_object object) es) seen ∙ held) in
      let more : one ≤ other =
      known
      (sym (any_known middle once old old_named object key is)
      ∙ ap (λ (es : List (Entry Object)). list_any (is_on same_object object) es) (objects_kept names middle old stands ∙ seen) ∙ held) in
      let also : room ≤ after_room = stays found.0 found.1 in
      both_stay one other room after_room more also

  -- where nothing was held, the names are kept
  pub added : IsMoved given (on_objects middle new) holder object bits
  added = moved names middle middle old new given holder object key bits seen once is old_named new_named stands (λ n used. refl) set

  -- where something was held, they are given back
  pub replaced : (after : Names) (after_uses : List ℕ) → are_none (bits_at same_key old holder key) ≡ false →
      ((n : ℕ) → get_or after_uses n 0 + key_uses n key ≡ get_or middle_uses n 0) →
      ((n : ℕ) → 0 < get_or after_uses n 0 → name_at after n ≡ name_at middle n) → IsMoved given (on_objects after new) holder object bits
  replaced after after_uses held back stay =
      moved names middle after old new given holder object key bits seen once is old_named new_named stands
      (λ n used. stay n (omega (
        arith,
        used,
        back n,
        taken n,
        kept.counts n,
        set.uses n,
        some_used (bits_at same_key old holder key) (key_uses n key) held,
        used_at_most bits (key_uses n key),
      ))) set

-- nothing is taken from an object on which nothing is held
none_set : (given : List (Entry Object)) (holder : ℕ) (object : Object) (bits : Bits) → bits_at same_object given holder object ≡ bits → SetsBits same_object given given holder object bits
none_set given holder object bits none h x =
    elim (cases_Bool ((h == holder) && same_object x object)) [
      | inl same ↦
          let parts = and_parts (h == holder) (same_object x object) same in
          ap (λ (y : ℕ). bits_at same_object given y x) (eqb-true h holder parts.0)
          ∙ ap (λ (y : Object). bits_at same_object given holder y) (equal_from_same_object x object parts.1)
          ∙ none ∙ sym (ap (λ (b : Bool). if b then bits else bits_at same_object given h x) same)
      | inr apart ↦ sym (ap (λ (b : Bool). if b then bits else bits_at same_object given h x) apart)
    ]

-- where nothing is held and nothing is set, all stays
pub unchanged : (given : List (Entry Object)) (holder : ℕ) (object : Object) (bits : Bits) → are_none (bits_at same_object given holder object) ≡ true →
    (are_none bits ≡ false → are_none (bits_at same_object given holder object) ≡ false) → IsMoved given given holder object bits
unchanged given holder object bits none needs =
    let no_more : are_none bits ≡ true = true_from_ne_false (are_none bits) (λ some. true≢false (sym none ∙ needs some)) in
    let same : bits_at same_object given holder object ≡ bits = none_is (bits_at same_object given holder object) none ∙ sym (none_is bits no_more) in
    record {
      sets = none_set given holder object bits same;
      count = ap (λ (b : Bits). length given + record_count b) same;
    }
