-- The sessions of a script differ, so a session's name has one place.
use Rattle.std.proofs.Common.{◌≡◌, ℕ, ◌<◌, Bool, true, false, ◌||◌, not, if◌then◌else◌, List, [], ◌∷◌, length, filter, slice_index_or, zero, suc, refl, sym, ap, subst, ◌∙◌, arith}
use Rattle.std.specs.Str.{bytes_eq}
use Rattle.std.proofs.lemmas.List.Folds.{list_any_at}
use Rattle.std.proofs.lemmas.Slice.Eq.{bytes_eq-Decides}
use Rattle.script_lines.proofs.Sessions.{any_of}
use Rattle.script_lines.specs.Script.{first_appearances}

abbrev AreDistinct : List (List ℕ) → Type 0
AreDistinct [] = Unit {0}
AreDistinct (name ∷ names) = (any_of names name ≡ false) × AreDistinct names

or_false : (a b : Bool) → (a || b) ≡ false → (a ≡ false) × (b ≡ false)
or_false true b e = let wrong : true ≡ false = e in absurd (cc)
or_false false b e = (refl, e)

-- a filter brings no name in
filter-any-step : (p : List ℕ → Bool) (first name : List ℕ) (names : List (List ℕ)) (b : Bool) → any_of (filter p names) name ≡ false → bytes_eq first name ≡ false
    → any_of (if b then first ∷ filter p names else filter p names) name ≡ false
filter-any-step p first name names true rest other = ap (λ b. b || any_of (filter p names) name) other ∙ rest
filter-any-step p first name names false rest other = rest

filter-any : (p : List ℕ → Bool) (names : List (List ℕ)) (name : List ℕ) → any_of names name ≡ false → any_of (filter p names) name ≡ false
filter-any p [] name none = refl
filter-any p (first ∷ names) name none =
    let parts = or_false (bytes_eq first name) (any_of names name) none in
    filter-any-step p first name names (p first) (filter-any p names name parts.1) parts.0

filter-distinct-step : (p : List ℕ → Bool) (first : List ℕ) (names : List (List ℕ)) (b : Bool) → any_of (filter p names) first ≡ false → AreDistinct (filter p names) → AreDistinct (if b then first ∷ filter p names else filter p names)
filter-distinct-step p first names true none rest = (none, rest)
filter-distinct-step p first names false none rest = rest

filter-distinct : (p : List ℕ → Bool) (names : List (List ℕ)) → AreDistinct names → AreDistinct (filter p names)
filter-distinct p [] distinct = tt
filter-distinct p (first ∷ names) distinct = filter-distinct-step p first names (p first) (filter-any p names first distinct.0) (filter-distinct p names distinct.1)

-- what a filter takes out is not there
filtered-step : (first name : List ℕ) (names : List (List ℕ)) (b : Bool) → bytes_eq first name ≡ b → any_of (filter (λ o. not (bytes_eq o name)) names) name ≡ false
    → any_of (if not b then first ∷ filter (λ o. not (bytes_eq o name)) names else filter (λ o. not (bytes_eq o name)) names) name ≡ false
filtered-step first name names true is rest = rest
filtered-step first name names false is rest = ap (λ b. b || any_of (filter (λ o. not (bytes_eq o name)) names) name) is ∙ rest

filtered : (names : List (List ℕ)) (name : List ℕ) → any_of (filter (λ o. not (bytes_eq o name)) names) name ≡ false
filtered [] name = refl
filtered (first ∷ names) name = filtered-step first name names (bytes_eq first name) refl (filtered names name)

first_appearances-distinct : (names : List (List ℕ)) → AreDistinct (first_appearances names)
first_appearances-distinct [] = tt
first_appearances-distinct (name ∷ names) =
    (filtered (first_appearances names) name, filter-distinct (λ o. not (bytes_eq o name)) (first_appearances names) (first_appearances-distinct names))

not_there : (names : List (List ℕ)) (name : List ℕ) (i : ℕ) → any_of names name ≡ false → i < length names → slice_index_or names i [] ≡ name → ⊥
not_there names name i none below same =
    let there : any_of names name ≡ true = list_any_at (λ other. bytes_eq other name) names i [] below ((bytes_eq-Decides (slice_index_or names i []) name).1 same) in
    let wrong : false ≡ true = sym none ∙ there in
    absurd (cc)

one_place : (names : List (List ℕ)) (i j : ℕ) → AreDistinct names → i < length names → j < length names → slice_index_or names i [] ≡ slice_index_or names j [] → i ≡ j
one_place [] i j distinct below within same = absurd (omega arith)
one_place (name ∷ names) zero zero distinct below within same = refl
one_place (name ∷ names) zero (suc j) distinct below within same = absurd (not_there names name j distinct.0 (omega arith) (sym same))
one_place (name ∷ names) (suc i) zero distinct below within same = absurd (not_there names name i distinct.0 (omega arith) same)
one_place (name ∷ names) (suc i) (suc j) distinct below within same = ap suc (one_place names i j distinct.1 (omega arith) (omega arith) same)

pub one_session : (all names : List (List ℕ)) (i j : ℕ) → first_appearances all ≡ names → i < length names → j < length names → slice_index_or names i [] ≡ slice_index_or names j [] → i ≡ j
one_session all names i j are below within same =
    let P : List (List ℕ) → Type 0 = λ ns. AreDistinct ns in
    one_place names i j (subst P are (first_appearances-distinct all)) below within same
