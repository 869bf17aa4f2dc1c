-- What a pattern stands for. MySQL 8.0 Reference Manual, "Specifying Account Names".
use Rattle.std.specs.Prelude.{◌≡◌, ℕ, Bool, true, false, ◌==◌, ◌&&◌, ◌||◌, List, [], ◌∷◌, if◌then◌else◌, codes, refl}
use Rattle.std.specs.Str.{chars}

-- no character is left
abbrev pub is_end : List ℕ → Bool
is_end [] = true
is_end (character ∷ rest) = false

-- what is left behind some text, maybe an empty one, passes the test
abbrev pub behind_any : (List ℕ → Bool) → List ℕ → Bool
behind_any test [] = test []
behind_any test (character ∷ rest) = test (character ∷ rest) || behind_any test rest

-- `_`, of code 95, stands for one character, and any other sign for itself
abbrev pub stands_for : ℕ → ℕ → Bool
stands_for sign character = sign == 95 || sign == character

-- the sign stands for the first character, and the rest passes the test
abbrev pub behind_one : ℕ → (List ℕ → Bool) → List ℕ → Bool
behind_one sign test [] = false
behind_one sign test (character ∷ rest) = stands_for sign character && test rest

-- `%`, of code 37, stands for any text
abbrev pub like : List ℕ → List ℕ → Bool
like [] = is_end
like (sign ∷ signs) = if sign == 37 then behind_any (like signs) else behind_one sign (like signs)

-- the text is one of those that the pattern stands for, character by character
unfoldable pub is_like : List ℕ → List ℕ → Bool
is_like pattern text = like (chars pattern) (chars text)

example-like : like (codes "a%b_") (codes "axxbc") ≡ true
example-like = refl

example-one_character : like (codes "a_") (codes "a") ≡ false
example-one_character = refl
