-- The number of a name, and names that have none.
use Rattle.std.proofs.Common.{◌≡◌, ◌∙◌, refl, sym, ap, ℕ, Bool, true, false, ◌<◌, ◌≤◌, zero, suc, List, [], ◌∷◌, length, get_or, slice_get, position, Option, None, Some, IsTrue, IfNone, ◌↔◌, inl, inr, arith}
use Rattle.std.specs.List.{list_any, IsDistinct}
use Rattle.std.specs.Cmp.{IsEquivalence}
use Rattle.std.proofs.lemmas.Bool.{cases_lt, true≢false}
use Rattle.std.proofs.lemmas.List.Folds.{list_any_none}
use Rattle.std.proofs.lemmas.List.Quantifiers.{position-Some}
use Rattle.std.proofs.lemmas.Map.Keys.{any_passes_from_place, apart_from_distinct}
use Rattle.std.proofs.lemmas.Option.{slice_get-get_or, slice_get_within, get_or_from_slice_get, none-some, same_Some}
use Rattle.numbered_names.specs.Numbered.{name_at, is_name, HasEachOnce, IsListOf, IsNew}
use Rattle.numbered_names.specs.Tables.{AreInverse, names_by_number}
use Rattle.numbered_names.proofs.Numberings.{name_at-place, name_at-past}

pub read_at : (numbers : List ℕ) (place number : ℕ) → place < length numbers → number ≡ get_or numbers place number → number ≡ get_or numbers place 0
read_at [] place number within read = absurd (omega arith)
read_at (n ∷ ns) zero number within read = read
read_at (n ∷ ns) (suc place) number within read = read_at ns place number (omega arith) read

module _ {K : Type 0} (eq : K → K → Bool) (name : K) where
  -- a name that no place has has no number
  pub new_from_none : (names : List K) (places : List ℕ) → list_any (eq name) names ≡ false → IsNew eq (names_by_number names places) name
  new_from_none names places none number =
      elim (cases_lt number (length places)) [
        | inl within ↦ ap (is_name eq name) (name_at-place names places number within) ∙ by (slice_get names (get_or places number 0)) refl
        | inr past ↦ ap (is_name eq name) (name_at-past names places number past)
      ]
    where
      by : (o : Option K) → slice_get names (get_or places number 0) ≡ o → is_name eq name o ≡ false
      by None at = refl
      by (Some other) at = tested (eq name other) refl
        where
          tested : (b : Bool) → eq name other ≡ b → b ≡ false
          tested false is = refl
          tested true is = sym (any_passes_from_place (eq name) names (get_or places number 0) other at is) ∙ none

  -- and a name without a number has no place
  pub none_from_new : (names : List K) (numbers places : List ℕ) → AreInverse numbers places → length names ≤ length places →
      IsNew eq (names_by_number names places) name → list_any (eq name) names ≡ false
  none_from_new names numbers places inverse taken new =
      list_any_none (eq name) names (λ place d within.
      let inside : place < length places = omega arith in
      sym (ap (is_name eq name)
      (name_at-place names places (get_or numbers place 0) (inverse.number_within place inside)
      ∙ ap (slice_get names) (inverse.place_of_number place inside)
      ∙ slice_get-get_or names place d within))
      ∙ new (get_or numbers place 0))

  module _ (laws : IsEquivalence eq) (names : List K) (distinct : IsDistinct eq names) where
    apart : (one other : ℕ) (a b : K) → one < other → slice_get names one ≡ Some a → slice_get names other ≡ Some b → eq a b ≡ false
    apart one other a b before at_one at_other =
        let within = slice_get_within names other b at_other in
        ap (λ k. eq k b) (sym (get_or_from_slice_get names one a b at_one))
        ∙ ap (eq (get_or names one b)) (sym (get_or_from_slice_get names other b b at_other))
        ∙ apart_from_distinct eq names one other b distinct before within

    -- equal names stand at one place
    one_place : (one other : ℕ) (a b : K) → slice_get names one ≡ Some a → slice_get names other ≡ Some b → eq a b ≡ true → one ≡ other
    one_place one other a b at_one at_other same =
        elim (cases_lt one other) [
          | inl before ↦ absurd (true≢false (sym same ∙ apart one other a b before at_one at_other))
          | inr not_before ↦ elim (cases_lt other one) [
            | inl after ↦ absurd (true≢false (sym same ∙ laws.symm a b ∙ apart other one b a after at_other at_one))
            | inr not_after ↦ omega arith
          ]
        ]

  module _ (laws : IsEquivalence eq) (names : List K) (numbers places : List ℕ) (inverse : AreInverse numbers places) (taken : length names ≤ length places)
      (distinct : IsDistinct eq names) (place : ℕ) (found : position (eq name) names ≡ Some place) where
    same_place : (other : ℕ) (stored : K) → slice_get names other ≡ Some stored → eq name stored ≡ true → other ≡ place
    same_place other stored at is =
        let here = position-Some (eq name) names place stored found in
        let first = get_or names place stored in
        one_place laws names distinct other place stored first at (slice_get-get_or names place stored here.0)
        (laws.symm stored first ∙ sym (laws.congr name first stored here.1) ∙ is)

    -- the number of the name's place has the name
    number_stands : (number : ℕ) → get_or numbers place 0 ≡ number → is_name eq name (name_at (names_by_number names places) number) ≡ true
    number_stands number is =
        let here = position-Some (eq name) names place name found in
        let inside : place < length places = omega (arith, here.0) in
        ap (λ n. is_name eq name (name_at (names_by_number names places) n)) (sym is)
        ∙ ap (is_name eq name) (name_at-place names places (get_or numbers place 0) (inverse.number_within place inside)
        ∙ ap (slice_get names) (inverse.place_of_number place inside)
        ∙ slice_get-get_or names place name here.0)
        ∙ here.1

    -- and no other has it
    number_from_stands : (number : ℕ) → is_name eq name (name_at (names_by_number names places) number) ≡ true → get_or numbers place 0 ≡ number
    number_from_stands number stands =
        elim (cases_lt number (length places)) [
          | inl within ↦ by within (slice_get names (get_or places number 0)) refl
              (sym (ap (is_name eq name) (name_at-place names places number within)) ∙ stands)
          | inr past ↦ absurd (true≢false (sym stands ∙ ap (is_name eq name) (name_at-past names places number past)))
        ]
      where
        by : number < length places → (o : Option K) → slice_get names (get_or places number 0) ≡ o → is_name eq name (slice_get names (get_or places number 0)) ≡ true → get_or numbers place 0 ≡ number
        by within None at is = absurd (true≢false (sym is ∙ ap (is_name eq name) at))
        by within (Some stored) at is =
            ap (λ p. get_or numbers p 0) (sym (same_place (get_or places number 0) stored at (sym (ap (is_name eq name) at) ∙ is)))
            ∙ inverse.number_of_place number within

    -- where a place has the name, the place's number is its own
    pub some_is_exact : (given : List (Option K)) → names_by_number names places ≡ given → (result : ℕ) → result ≡ get_or numbers place result →
        (number : ℕ) → (Some result ≡ Some number) ↔ IsTrue (is_name eq name (name_at given number))
    some_is_exact given seen result read number =
        let here = position-Some (eq name) names place name found in
        let is = read_at numbers place result (omega (arith, here.0, inverse.same_length)) read in (
          (λ same. ap (λ (ns : List (Option K)). is_name eq name (name_at ns number)) (sym seen) ∙ number_stands number (sym is ∙ same_Some result number same)),
          (λ stands. ap Some (is ∙ number_from_stands number (ap (λ (ns : List (Option K)). is_name eq name (name_at ns number)) seen ∙ stands))),
        )

module _ {K : Type 0} (eq : K → K → Bool) (name : K) (given : List (Option K)) where
  -- where a name is new, no number is its own
  pub none_is_exact : (result : Option ℕ) → result ≡ None → IsNew eq given name →
      (number : ℕ) → (result ≡ Some number) ↔ IsTrue (is_name eq name (name_at given number))
  none_is_exact result none new number =
      ((λ some. absurd (none-some number (sym none ∙ some))), (λ stands. absurd (true≢false (sym stands ∙ new number))))

  pub none_is_new : (result : Option ℕ) → IsNew eq given name → IfNone result (IsNew eq given name)
  none_is_new None new = new
  none_is_new (Some number) new = tt

module _ {K : Type 0} (eq : K → K → Bool) (laws : IsEquivalence eq) (names : List K) (numbers places : List ℕ) (given : List (Option K))
    (seen : names_by_number names places ≡ given) (inverse : AreInverse numbers places) (distinct : IsDistinct eq names) where
  placed : (number : ℕ) (name : K) → name_at given number ≡ Some name → (number < length places) × (slice_get names (get_or places number 0) ≡ Some name)
  placed number name is =
      let at : name_at (names_by_number names places) number ≡ Some name = ap (λ (ns : List (Option K)). name_at ns number) seen ∙ is in
      elim (cases_lt number (length places)) [
        | inl within ↦ (within, sym (name_at-place names places number within) ∙ at)
        | inr past ↦ absurd (none-some name (sym (name_at-past names places number past) ∙ at))
      ]

  -- names that differ have numbers that differ
  pub each_once : HasEachOnce eq given
  each_once one other name at stands = by (name_at given other) refl stands
    where
      by : (o : Option K) → name_at given other ≡ o → is_name eq name o ≡ true → one ≡ other
      by None there is = absurd (true≢false (sym is))
      by (Some stored) there is =
          let first = placed one name at in
          let second = placed other stored there in
          sym (inverse.number_of_place one first.0)
          ∙ ap (λ p. get_or numbers p 0) (one_place eq name laws names distinct (get_or places one 0) (get_or places other 0) name stored first.1 second.1 is)
          ∙ inverse.number_of_place other second.0

  -- the names at the places are those that have numbers
  pub listed : length names ≤ length places → IsListOf eq given names
  listed taken = record {
    once = distinct;
    all = λ number name is.
        let at = (placed number name is).1 in
        (get_or places number 0, slice_get_within names (get_or places number 0) name at, get_or_from_slice_get names (get_or places number 0) name name at);
    stand = λ place d within.
        let inside : place < length places = omega arith in (
          get_or numbers place 0,
          ap (λ (ns : List (Option K)). name_at ns (get_or numbers place 0)) (sym seen)
              ∙ name_at-place names places (get_or numbers place 0) (inverse.number_within place inside)
              ∙ ap (slice_get names) (inverse.place_of_number place inside)
              ∙ slice_get-get_or names place d within,
        );
  }
