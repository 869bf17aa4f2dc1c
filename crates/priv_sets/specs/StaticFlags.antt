-- The constants of a set of static privileges.
use Rattle.std.specs.Prelude.{ℕ, ◌+◌, ◌^◌, ◌==◌, if◌then◌else◌, List, [], ◌∷◌, map}
use Rattle.priv_sets.specs.PlainNames.{plain_names}

-- a name as an identifier, with `_` in the place of each space
abbrev pub identifier_of : List ℕ → List ℕ
identifier_of name = map (λ byte. if byte == 32 then 95 else byte) name

-- each name as an identifier, beside the bit of its number, where the first has this number
abbrev pub flags_from : ℕ → List (List ℕ) → List (List ℕ × ℕ)
flags_from number [] = []
flags_from number (name ∷ names) = (identifier_of name, 2 ^ number) ∷ flags_from (number + 1) names

-- the identifier and the bit of each static privilege
unfoldable pub static_flags : List (List ℕ × ℕ)
static_flags = flags_from 0 plain_names
