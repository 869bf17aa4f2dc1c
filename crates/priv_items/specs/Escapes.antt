-- Wildcards in the name of a schema that are meant as they are written: `\%` and `\_`.
use Rattle.std.specs.Prelude.{◌≡◌, ℕ, Bool, false, ◌==◌, ◌&&◌, ◌||◌, if◌then◌else◌, List, [], ◌∷◌, ◌++◌, codes, refl}

-- 37 is `%`, and 95 is `_`
abbrev pub is_wildcard : ℕ → Bool
is_wildcard byte = byte == 37 || byte == 95

-- `%` or `_` comes first
abbrev pub begins_with_wildcard : List ℕ → Bool
begins_with_wildcard [] = false
begins_with_wildcard (byte ∷ rest) = is_wildcard byte

-- the byte is a backslash, and a wildcard stands right behind it
abbrev pub is_escape : ℕ → List ℕ → Bool
is_escape byte rest = byte == 92 && begins_with_wildcard rest

-- `\%` and `\_` stand for the wildcard, and every other byte for itself
abbrev pub unescaped : List ℕ → List ℕ
unescaped [] = []
unescaped (byte ∷ rest) = if is_escape byte rest then unescaped rest else byte ∷ unescaped rest

-- a wildcard right behind a backslash has one more backslash before it, so that it is read as it stands;
-- the test says whether a backslash stands before the text
abbrev pub escaped_behind : Bool → List ℕ → List ℕ
escaped_behind after [] = []
escaped_behind after (byte ∷ rest) = (if after && is_wildcard byte then 92 ∷ byte ∷ [] else byte ∷ []) ++ escaped_behind (byte == 92) rest

-- the text that stands for a name
abbrev pub escaped : List ℕ → List ℕ
escaped name = escaped_behind false name

-- 92 is the backslash, and 95 is `_`
example-unescaped : unescaped (92 ∷ 92 ∷ 95 ∷ 97 ∷ 37 ∷ []) ≡ 92 ∷ 95 ∷ 97 ∷ 37 ∷ []
example-unescaped = refl

example-escaped : escaped (92 ∷ 95 ∷ 97 ∷ 37 ∷ []) ≡ 92 ∷ 92 ∷ 95 ∷ 97 ∷ 37 ∷ []
example-escaped = refl

example-backslashes : escaped (codes "a\\%b_\\\\_") ≡ codes "a\\\\%b_\\\\\\_"
example-backslashes = refl

-- what is still to be read where a backslash was held back
abbrev pub held_back : Bool → List ℕ → List ℕ
held_back held rest = if held then 92 ∷ rest else rest
