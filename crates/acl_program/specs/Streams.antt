-- Inputs that are read whole, and texts that are written whole.
use Rattle.std.specs.Prelude.{◌≡◌, ℕ, ◌+◌, ◌<◌, ◌≤◌, List, [], ◌++◌, length, take, drop, Option, Some}

-- the most bytes that a script may have: 16 MiB
abbrev pub most_bytes : ℕ
most_bytes = 16777216

-- these bytes were read, all of them, and none is left
abbrev pub IsReadWhole : List ℕ → List ℕ → Option (List ℕ) → Type 0
IsReadWhole bytes read left = (read ≡ bytes) × (left ≡ Some [])

-- there are more bytes than the limit, and the first one beyond it was the last one that was taken
abbrev pub IsCutBeyond : ℕ → List ℕ → Option (List ℕ) → Type 0
IsCutBeyond limit bytes left = (limit < length bytes) × (left ≡ Some (drop (limit + 1) bytes))

-- some of the bytes were taken, from their front, and the others are left
abbrev pub IsEndLeft : List ℕ → Option (List ℕ) → Type 0
IsEndLeft bytes left = (count : ℕ) × (left ≡ Some (drop count bytes))

-- a front of the text, and nothing else, stands behind what was written before
abbrev pub IsPrefixWritten : List ℕ → List ℕ → Option (List ℕ) → Type 0
IsPrefixWritten before text written = (count : ℕ) × (count ≤ length text) × (written ≡ Some (before ++ take count text))
