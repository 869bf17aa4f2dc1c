-- A name that goes, and one that comes in place of another.
use Rattle.std.proofs.Common.{◌≡◌, ◌∙◌, sym, ap, subst, ℕ, ◌<◌, ◌+◌, ◌==◌, true, List, length, get_or, set, Option, None, Some, IsSome, is_some, if◌then◌else◌, inl, inr}
use Rattle.std.specs.List.{swap_remove}
use Rattle.std.proofs.lemmas.Bool.{cases_lt, true≢false}
use Rattle.std.proofs.lemmas.Option.{slice_get_past}
use Rattle.numbered_names.specs.Numbered.{name_at, ChangesOnly}
use Rattle.numbered_names.specs.Tables.{AreInverse, names_by_number}
use Rattle.numbered_names.proofs.Lookups.{read_at}
use Rattle.numbered_names.proofs.Numberings.{name_at-place, name_at-past, name_at-set, name_at-gone}

module _ {K : Type 0} (names : List K) (numbers places : List ℕ) (given : List (Option K)) (seen : names_by_number names places ≡ given)
    (inverse : AreInverse numbers places) (number : ℕ) where
  pub gone_name : (after : List ℕ) (left : List K) (place last : ℕ) (gone : K) → number < length places → get_or places number 0 ≡ place →
      place < length names → last + 1 ≡ length names → length after ≡ length places →
      ((other : ℕ) → other < length places → get_or after other 0 ≡
      (if get_or places other 0 == place then last else (if get_or places other 0 == last then place else get_or places other 0))) →
      left ≡ swap_remove names place gone → ChangesOnly given (names_by_number left after) number None
  gone_name after left place last gone within at stands ends same_length follows left_is other =
      ap (λ ns. name_at (names_by_number ns after) other) (left_is ∙ ap (λ p. swap_remove names p gone) (sym at))
      ∙ name_at-gone names numbers places inverse after number last gone within (subst (λ p. p < length names) (sym at) stands) ends same_length
      (λ o inside. subst (λ p. get_or after o 0 ≡ (if get_or places o 0 == p then last else (if get_or places o 0 == last then p else get_or places o 0)))
      (sym at) (follows o inside)) other
      ∙ ap (λ (ns : List (Option K)). if other == number then None else name_at ns other) seen

  -- a number that has a name is one of the table, and its place is taken
  module _ (stands : IsSome (name_at given number)) where
    stands_here : is_some (name_at (names_by_number names places) number) ≡ true
    stands_here = ap (λ (ns : List (Option K)). is_some (name_at ns number)) seen ∙ stands

    pub number_within : number < length places
    number_within =
        elim (cases_lt number (length places)) [
          | inl within ↦ within
          | inr past ↦ absurd (true≢false (sym stands_here ∙ ap is_some (name_at-past names places number past)))
        ]

    place_taken : get_or places number 0 < length names
    place_taken =
        elim (cases_lt (get_or places number 0) (length names)) [
          | inl within ↦ within
          | inr past ↦ absurd (true≢false (sym stands_here ∙ ap is_some (name_at-place names places number number_within
              ∙ slice_get_past names (get_or places number 0) past)))
        ]

    module _ (place : ℕ) (read : place ≡ get_or places number place) where
      at : place ≡ get_or places number 0
      at = read_at places number place number_within read

      pub place_within : place < length names
      place_within = subst (λ p. p < length names) (sym at) place_taken

      pub renamed : (after : List K) (name : K) → after ≡ set names place name → ChangesOnly given (names_by_number after places) number (Some name)
      renamed after name is other =
          ap (λ ns. name_at (names_by_number ns places) other) (is ∙ ap (λ p. set names p name) at)
          ∙ name_at-set names numbers places inverse number name number_within place_taken other
          ∙ ap (λ (ns : List (Option K)). if other == number then Some name else name_at ns other) seen
