-- A name behind the others, at a number that was free.
use Rattle.std.proofs.Common.{◌≡◌, ◌∙◌, sym, ap, subst, ℕ, ◌<◌, ◌≤◌, ◌==◌, ◌++◌, List, [], ◌∷◌, length, get_or, Option, None, Some, IsSome, if◌then◌else◌}
use Rattle.numbered_names.specs.Numbered.{name_at, ChangesOnly}
use Rattle.numbered_names.specs.Tables.{AreInverse, names_by_number, with_free}
use Rattle.numbered_names.proofs.Numberings.{none_free, first_is_free, length-with_free, name_at-with_free, name_at-added}

module _ {K : Type 0} (names : List K) (numbers places : List ℕ) (given : List (Option K)) (seen : names_by_number names places ≡ given)
    (inverse : AreInverse numbers places) (within : length names ≤ length places)
    (numbers_after places_after : List ℕ) (taken number : ℕ) (taken_is : taken ≡ length names) (tables : places_after ≡ with_free taken places)
    (inverse_after : AreInverse numbers_after places_after) (number_is : number ≡ get_or numbers_after taken 0) where
  table_is : places_after ≡ with_free (length names) places
  table_is = tables ∙ ap (λ n. with_free n places) taken_is

  first : number ≡ get_or numbers_after (length names) 0
  first = number_is ∙ ap (λ n. get_or numbers_after n 0) taken_is

  has_free : length names < length places_after
  has_free = subst (λ (p : List ℕ). length names < length p) (sym table_is) (length-with_free (length names) places within)

  same_name : (other : ℕ) → name_at (names_by_number names places_after) other ≡ name_at given other
  same_name other =
      ap (λ p. name_at (names_by_number names p) other) table_is
      ∙ name_at-with_free names places other within
      ∙ ap (λ (ns : List (Option K)). name_at ns other) seen

  pub number_was_free : name_at given number ≡ None
  number_was_free = sym (same_name number) ∙ first_is_free names numbers_after places_after inverse_after number has_free first

  pub new_where_none_free : number ≡ length given → (other : ℕ) → other < number → IsSome (name_at given other)
  new_where_none_free new other below =
      let inside : number < length places_after =
      subst (λ n. n < length places_after) (sym first) (inverse_after.number_within (length names) has_free) in
      subst (λ (ns : List (Option K)). IsSome (name_at ns other)) seen
      (none_free names numbers places number other inverse within
      (subst (λ (p : List ℕ). number < length p) table_is inside) (new ∙ ap length (sym seen)) below)

  pub added_name : (after : List K) (name : K) → after ≡ names ++ name ∷ [] → ChangesOnly given (names_by_number after places_after) number (Some name)
  added_name after name pushed other =
      ap (λ ns. name_at (names_by_number ns places_after) other) pushed
      ∙ name_at-added names numbers_after places_after inverse_after number name has_free first other
      ∙ ap (λ (o : Option K). if other == number then Some name else o) (same_name other)
