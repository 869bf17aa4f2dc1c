-- What a read does to the bytes that are left.
use Rattle.std.specs.Prelude.{◌≡◌, ℕ, ◌≤◌, List, length, take, drop, Option, Some, Result, MatchResult}

-- the front of these bytes stands at the front of `into`, and is left no longer
abbrev pub Gives : List ℕ → Option (List ℕ) → List ℕ → ℕ → Type 0
Gives bytes left into count =
    (count ≤ length bytes) × (take count into ≡ take count bytes) × (left ≡ Some (drop count bytes))

-- a read gives the bytes that it answers, and takes none where it fails
abbrev pub Reads : {E : Type 0} → List ℕ → Option (List ℕ) → List ℕ → Result ℕ E → Type 0
Reads bytes left into result = MatchResult result (Gives bytes left into) (λ _. left ≡ Some bytes)
