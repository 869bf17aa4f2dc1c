-- The name of a privilege as tokens.
use Rattle.std.specs.Prelude.{◌≡◌, ℕ, ◌==◌, List, [], ◌∷◌, codes, map, refl}
use Rattle.std.specs.List.{slice_split}
use Rattle.grant_lex.specs.declared.sorts.Kind.TheVariants.{Word}
use Rattle.grant_words.specs.declared.lexeme.Lexeme.{Lexeme}

abbrev pub word_token : List ℕ → Lexeme
word_token text = record { kind = Word; value = text }

-- a word for each part between spaces
abbrev pub name_tokens : List ℕ → List Lexeme
name_tokens name = map word_token (slice_split (λ byte. byte == 32) name)

example-two_words : name_tokens (codes "DROP ROLE") ≡ word_token (codes "DROP") ∷ word_token (codes "ROLE") ∷ []
example-two_words = refl
