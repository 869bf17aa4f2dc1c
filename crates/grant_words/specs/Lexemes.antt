-- The tokens of a text with what they stand for.
use Rattle.std.specs.Prelude.{ℕ, List, map, slice_range}
use Rattle.grant_lex.specs.Printed.{Printed}
use Rattle.grant_lex.specs.Value.{value_of}
use Rattle.grant_lex.specs.declared.sorts.Token.{Token}
use Rattle.grant_words.specs.declared.lexeme.Lexeme.{Lexeme}

abbrev pub lexeme_of : List ℕ → Token → Lexeme
lexeme_of text token = record { kind = token.kind; value = value_of (slice_range text token.from token.to) }

abbrev pub lexemes_of : List ℕ → List Token → List Lexeme
lexemes_of text tokens = map (lexeme_of text) tokens

-- a token that is written by itself, with what it stands for
abbrev pub printed_lexeme : Printed → Lexeme
printed_lexeme token = record { kind = token.kind; value = value_of token.text }

abbrev pub printed_lexemes : List Printed → List Lexeme
printed_lexemes tokens = map printed_lexeme tokens
