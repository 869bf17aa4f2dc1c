-- What a put does to the bytes that were written.
use Rattle.std.specs.Prelude.{◌≡◌, ℕ, List, ◌++◌, take, Option, Some, Result, MatchResult}

-- a put adds the front of the piece, and nothing where it fails
abbrev pub Adds : {E : Type 0} → List ℕ → Option (List ℕ) → List ℕ → Result ℕ E → Type 0
Adds before written piece result =
    MatchResult result (λ count. written ≡ Some (before ++ take count piece)) (λ _. written ≡ Some before)
