-- What stands at a number, by the tables.
use Rattle.std.proofs.Common.{◌≡◌, ◌≢◌, ◌∙◌, refl, sym, ap, subst, ℕ, Bool, true, false, ◌<◌, ◌≤◌, ◌+◌, ◌==◌, ◌++◌, List, [], ◌∷◌, length, get_or, slice_get, nat_lt, None, Some, IsSome, is_some, zero, suc, if◌then◌else◌, inl, inr, arith, set}
use Rattle.std.specs.List.{swap_remove}
use Rattle.std.proofs.lemmas.Bool.{cases_lt, cases_eq, eq-eqb, ne_eqb, ltb-true}
use Rattle.std.proofs.lemmas.List.{get_or-map}
use Rattle.std.proofs.lemmas.Grind.{common_steps}
use Rattle.std.proofs.lemmas.Option.{slice_get_past}
use Rattle.numbered_names.specs.Numbered.{name_at, ChangesOnly}
use Rattle.numbered_names.specs.Tables.{AreInverse, names_by_number, with_free}
use Rattle.numbered_names.proofs.Places.{slice_get-set_same, slice_get-set_other, slice_get-push_last, slice_get-push_other, slice_get-gone_last, slice_get-gone_place, slice_get-gone_other, slice_get-gone_past}

if_same : {X : Type 0} (a b : ℕ) (x y : X) → a ≡ b → (if a == b then x else y) ≡ x
if_same a b x y same = ap (λ (t : Bool). if t then x else y) (eq-eqb a b same)

if_apart : {X : Type 0} (a b : ℕ) (x y : X) → a ≢ b → (if a == b then x else y) ≡ y
if_apart a b x y apart = ap (λ (t : Bool). if t then x else y) (ne_eqb a b apart)

is_some-slice_get : {X : Type 0} (xs : List X) (place : ℕ) → place < length xs → is_some (slice_get xs place) ≡ true
is_some-slice_get [] place within = absurd (omega arith)
is_some-slice_get (x ∷ xs) zero within = refl
is_some-slice_get (x ∷ xs) (suc place) within = is_some-slice_get xs place (omega arith)

-- one more entry fits before the end
pub length-with_free : (taken : ℕ) (table : List ℕ) → taken ≤ length table → taken < length (with_free taken table)
length-with_free taken table within = by (nat_lt taken (length table)) refl
  where
    by : (b : Bool) → nat_lt taken (length table) ≡ b → taken < length (if b then table else table ++ length table ∷ [])
    by true before = ltb-true taken (length table) before
    by false full = grind (arith, common_steps)

module _ {K : Type 0} where
  pub length-names_by_number : (names : List K) (places : List ℕ) → length (names_by_number names places) ≡ length places
  length-names_by_number names places = grind (arith, common_steps)

  -- the name at a number stands at the number's place
  pub name_at-place : (names : List K) (places : List ℕ) (number : ℕ) → number < length places →
      name_at (names_by_number names places) number ≡ slice_get names (get_or places number 0)
  name_at-place names places number within = get_or-map (slice_get names) places number 0 None within

  -- no name stands past the numbers
  pub name_at-past : (names : List K) (places : List ℕ) (number : ℕ) → length places ≤ number →
      name_at (names_by_number names places) number ≡ None
  name_at-past names places number past = grind (arith, common_steps)

  free_place : (names : List K) (places : List ℕ) (number : ℕ) → length places ≤ number → length names ≤ length places →
      name_at (names_by_number names (places ++ length places ∷ [])) number ≡ None
  free_place names places number past taken =
      elim (cases_eq number (length places)) [
        | inl same ↦ name_at-place names (places ++ length places ∷ []) number (grind (arith, common_steps))
            ∙ slice_get_past names (get_or (places ++ length places ∷ []) number 0) (grind (arith, common_steps))
        | inr apart ↦ name_at-past names (places ++ length places ∷ []) number (grind (arith, common_steps))
      ]

  -- a number more, which is free, changes no name
  pub name_at-with_free : (names : List K) (places : List ℕ) (number : ℕ) → length names ≤ length places →
      name_at (names_by_number names (with_free (length names) places)) number ≡ name_at (names_by_number names places) number
  name_at-with_free names places number taken = by (nat_lt (length names) (length places))
    where
      by : (b : Bool) → name_at (names_by_number names (if b then places else places ++ length places ∷ [])) number ≡ name_at (names_by_number names places) number
      by true = refl
      by false =
          elim (cases_lt number (length places)) [
            | inl within ↦ name_at-place names (places ++ length places ∷ []) number (grind (arith, common_steps))
                ∙ ap (slice_get names) (grind (arith, common_steps))
                ∙ sym (name_at-place names places number within)
            | inr past ↦ free_place names places number past taken ∙ sym (name_at-past names places number past)
          ]

  -- where a new number is given, no number is free
  pub none_free : (names : List K) (numbers places : List ℕ) (number other : ℕ) → AreInverse numbers places → length names ≤ length places →
      number < length (with_free (length names) places) → number ≡ length (names_by_number names places) → other < number →
      IsSome (name_at (names_by_number names places) other)
  none_free names numbers places number other inverse taken within new below =
      elim (cases_lt (length names) (length places)) [
        | inl free ↦ absurd (grind (arith, common_steps, length-names_by_number names places))
        | inr full ↦
            let there : other < length places = omega (arith, new, below, length-names_by_number names places) in
            let place = inverse.place_within other there in
            ap is_some (name_at-place names places other there) ∙ is_some-slice_get names (get_or places other 0) (omega arith)
      ]

  module _ (names : List K) (numbers places : List ℕ) (inverse : AreInverse numbers places) where
    -- the number at the first place that is not taken has no name
    pub first_is_free : (number : ℕ) → length names < length places → number ≡ get_or numbers (length names) 0 → name_at (names_by_number names places) number ≡ None
    first_is_free number free is =
        ap (name_at (names_by_number names places)) is
        ∙ name_at-place names places (get_or numbers (length names) 0) (inverse.number_within (length names) free)
        ∙ ap (slice_get names) (inverse.place_of_number (length names) free)
        ∙ slice_get_past names (length names) (omega arith)

    -- two numbers at one place are the same
    pub same_number : (one other : ℕ) → one < length places → other < length places → get_or places one 0 ≡ get_or places other 0 → one ≡ other
    same_number one other one_within other_within same =
        sym (inverse.number_of_place one one_within) ∙ ap (λ place. get_or numbers place 0) same ∙ inverse.number_of_place other other_within

    -- a name behind the last has the number of that place
    pub name_at-added : (number : ℕ) (name : K) → length names < length places → number ≡ get_or numbers (length names) 0 →
        ChangesOnly (names_by_number names places) (names_by_number (names ++ name ∷ []) places) number (Some name)
    name_at-added number name free is other =
        let within : number < length places = subst (λ n. n < length places) (sym is) (inverse.number_within (length names) free) in
        let there : get_or places number 0 ≡ length names = ap (λ n. get_or places n 0) is ∙ inverse.place_of_number (length names) free in
        elim (cases_lt other (length places)) [
          | inl inside ↦ elim (cases_eq other number) [
            | inl same ↦
                name_at-place (names ++ name ∷ []) places other inside
                ∙ ap (slice_get (names ++ name ∷ [])) (ap (λ n. get_or places n 0) same ∙ there)
                ∙ slice_get-push_last names name
                ∙ sym (if_same other number (Some name) (name_at (names_by_number names places) other) same)
            | inr apart ↦
                name_at-place (names ++ name ∷ []) places other inside
                ∙ slice_get-push_other names (get_or places other 0) name (λ e. apart (same_number other number inside within (e ∙ sym there)))
                ∙ sym (name_at-place names places other inside)
                ∙ sym (if_apart other number (Some name) (name_at (names_by_number names places) other) apart)
          ]
          | inr past ↦
              name_at-past (names ++ name ∷ []) places other past
              ∙ sym (name_at-past names places other past)
              ∙ sym (if_apart other number (Some name) (name_at (names_by_number names places) other) (λ e. omega arith))
        ]

    -- a name in place of another has its number
    pub name_at-set : (number : ℕ) (name : K) → number < length places → get_or places number 0 < length names →
        ChangesOnly (names_by_number names places) (names_by_number (set names (get_or places number 0) name) places) number (Some name)
    name_at-set number name within stands other =
        elim (cases_lt other (length places)) [
          | inl inside ↦ elim (cases_eq other number) [
            | inl same ↦
                name_at-place (set names (get_or places number 0) name) places other inside
                ∙ ap (λ n. slice_get (set names (get_or places number 0) name) (get_or places n 0)) same
                ∙ slice_get-set_same names (get_or places number 0) name stands
                ∙ sym (if_same other number (Some name) (name_at (names_by_number names places) other) same)
            | inr apart ↦
                name_at-place (set names (get_or places number 0) name) places other inside
                ∙ slice_get-set_other names (get_or places number 0) (get_or places other 0) name (λ e. apart (same_number other number inside within e))
                ∙ sym (name_at-place names places other inside)
                ∙ sym (if_apart other number (Some name) (name_at (names_by_number names places) other) apart)
          ]
          | inr past ↦
              name_at-past (set names (get_or places number 0) name) places other past
              ∙ sym (name_at-past names places other past)
              ∙ sym (if_apart other number (Some name) (name_at (names_by_number names places) other) (λ e. omega arith))
        ]

    -- a name goes, the last one takes its place, and the tables follow
    module _ (after : List ℕ) (number last : ℕ) (gone : K) (within : number < length places) (stands : get_or places number 0 < length names)
        (ends : last + 1 ≡ length names) (same_length : length after ≡ length places)
        (follows : (other : ℕ) → other < length places → get_or after other 0 ≡
        (if get_or places other 0 == get_or places number 0 then last else
        (if get_or places other 0 == last then get_or places number 0 else get_or places other 0))) where
      kept_name : (other : ℕ) → other < length places → other ≢ number →
          slice_get (swap_remove names (get_or places number 0) gone) (get_or after other 0) ≡ slice_get names (get_or places other 0)
      kept_name other inside apart =
          let elsewhere : get_or places other 0 ≢ get_or places number 0 = λ e. apart (same_number other number inside within e) in
          let moves = follows other inside ∙ if_apart (get_or places other 0) (get_or places number 0) last
          (if get_or places other 0 == last then get_or places number 0 else get_or places other 0) elsewhere in
          elim (cases_eq (get_or places other 0) last) [
            | inl at_last ↦
                let before : get_or places number 0 < last = elim (cases_lt (get_or places number 0) last) [
                  | inl less ↦ less
                  | inr not_less ↦ absurd (elsewhere (omega arith))
                ] in
                ap (slice_get (swap_remove names (get_or places number 0) gone))
                (moves ∙ if_same (get_or places other 0) last (get_or places number 0) (get_or places other 0) at_last)
                ∙ slice_get-gone_place names (get_or places number 0) last gone stands ends before
                ∙ ap (slice_get names) (sym at_last)
            | inr not_last ↦
                ap (slice_get (swap_remove names (get_or places number 0) gone))
                (moves ∙ if_apart (get_or places other 0) last (get_or places number 0) (get_or places other 0) not_last)
                ∙ elim (cases_lt (get_or places other 0) last) [
                  | inl before ↦ slice_get-gone_other names (get_or places number 0) last gone stands ends (get_or places other 0) before elsewhere
                  | inr past ↦
                      slice_get-gone_past names (get_or places number 0) last gone stands ends (get_or places other 0) past
                      ∙ sym (slice_get_past names (get_or places other 0) (elim (cases_lt (get_or places other 0) (length names)) [
                        | inl less ↦ absurd (not_last (omega arith))
                        | inr not_less ↦ not_less
                      ]))
                ]
          ]

      pub name_at-gone : ChangesOnly (names_by_number names places) (names_by_number (swap_remove names (get_or places number 0) gone) after) number None
      name_at-gone other =
          elim (cases_lt other (length places)) [
            | inl inside ↦ elim (cases_eq other number) [
              | inl same ↦
                  name_at-place (swap_remove names (get_or places number 0) gone) after other (omega arith)
                  ∙ ap (slice_get (swap_remove names (get_or places number 0) gone))
                  (follows other inside ∙ if_same (get_or places other 0) (get_or places number 0) last
                  (if get_or places other 0 == last then get_or places number 0 else get_or places other 0) (ap (λ n. get_or places n 0) same))
                  ∙ slice_get-gone_last names (get_or places number 0) last gone stands ends
                  ∙ sym (if_same other number None (name_at (names_by_number names places) other) same)
              | inr apart ↦
                  name_at-place (swap_remove names (get_or places number 0) gone) after other (omega arith)
                  ∙ kept_name other inside apart
                  ∙ sym (name_at-place names places other inside)
                  ∙ sym (if_apart other number None (name_at (names_by_number names places) other) apart)
            ]
            | inr past ↦
                name_at-past (swap_remove names (get_or places number 0) gone) after other (omega arith)
                ∙ sym (name_at-past names places other past)
                ∙ sym (if_apart other number None (name_at (names_by_number names places) other) (λ e. omega arith))
          ]
