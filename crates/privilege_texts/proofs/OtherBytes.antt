-- Why the names of schemas are said to keep their rules in UTF-8 alone.
use Rattle.std.specs.Prelude.{◌≡◌, [], ◌∷◌, length, refl}
use Rattle.std.specs.Str.{chars}
use Rattle.priv_items.specs.Escapes.{unescaped}

-- of other bytes escapes may leave more characters: 226 takes the two bytes behind it, and 92 and 37 are the escaped `%`
example-without_escapes : length (chars (unescaped (226 ∷ 92 ∷ 37 ∷ 226 ∷ 97 ∷ 98 ∷ []))) ≡ 3
unfolding chars
example-without_escapes = refl

example-with_escapes : length (chars (226 ∷ 92 ∷ 37 ∷ 226 ∷ 97 ∷ 98 ∷ [])) ≡ 2
unfolding chars
example-with_escapes = refl
