-- Histories as lists: which begins which, and the items of one caller.
use Rattle.std.specs.Prelude.{◌≡◌, ℕ, ◌⊎◌, List, [], ◌∷◌, ◌++◌, length, filter, nat_le, ◌==◌, if◌then◌else◌}

module _ {A : Type 0} where
  -- the second list begins with the first
  abbrev pub Begins : List A → List A → Type 0
  Begins xs ys = (rest : List A) × (ys ≡ xs ++ rest)

  abbrev pub longer_of : List A → List A → List A
  longer_of xs ys = if nat_le (length ys) (length xs) then xs else ys

  -- x is an element of the list
  abbrev pub Has : List A → A → Type 0
  Has [] x = ⊥
  Has (y ∷ ys) x = (y ≡ x) ⊎ Has ys x

-- the items of a caller, in order
abbrev pub by_caller : {I : Type 0} → (I → ℕ) → ℕ → List I → List I
by_caller by caller log = filter (λ item. by item == caller) log
