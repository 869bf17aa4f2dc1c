-- Tokens with what they stand for, one run behind the other.
use Rattle.std.proofs.Common.{◌≡◌, IsTrue, List, ◌++◌, refl}
use Rattle.std.proofs.lemmas.List.{map-append}
use Rattle.grant_lex.specs.Printed.{Printed}
use Rattle.grant_words.specs.Classes.{is}
use Rattle.grant_words.specs.Lexemes.{printed_lexeme, printed_lexemes}
use Rattle.grant_words.specs.Lists.{comma}
use Rattle.canonical_texts.specs.Tokens.{mark}

pub comma_is : IsTrue (is comma (printed_lexeme (mark 44)))
unfolding is
comma_is = refl

pub lexemes_append : (xs ys : List Printed) → printed_lexemes (xs ++ ys) ≡ printed_lexemes xs ++ printed_lexemes ys
lexemes_append xs ys = map-append printed_lexeme xs ys
