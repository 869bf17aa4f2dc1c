-- The option AT of a CONNECT: a word AT behind tokens that spell the CONNECT, and what follows the word.
use Rattle.std.specs.Prelude.{◌≡◌, ◌++◌, not, ℕ, Bool, IsTrue, List, ◌∷◌, Option, Some, None, Result, Ok, Err, length, drop, codes}
use Rattle.acl_grammar.specs.Reader.{Reading, expected}
use Rattle.acl_grammar.specs.Spelling.{spells}
use Rattle.grant_lex.specs.Class.{is_blank}
use Rattle.grant_lex.specs.Next.{BeginsWithout, IsBlank}
use Rattle.grant_lex.specs.Token.{PastBlanks, Reads}
use Rattle.grant_lex.specs.declared.refusal.LexRefusal.{LexRefusal}
use Rattle.grant_lex.specs.declared.sorts.Token.{Token}
use Rattle.grant_words.specs.Classes.{Class, is, word}
use Rattle.grant_words.specs.Lexemes.{lexeme_of, lexemes_of}
use Rattle.grant_words.specs.Syntax.{grammar_of}
use Rattle.grant_words.specs.declared.lexeme.Lexeme.{Lexeme}
use Rattle.script_commands.specs.Commands.{connect}
use Rattle.script_commands.specs.declared.command.Connect.{Connect}

-- AT
abbrev pub at_word : Class
at_word = word (codes "AT")

-- the moment begins here
abbrev pub IsMomentAt : ℕ → ℕ → List ℕ → Type 0
IsMomentAt place from moment = (from ≡ place) × BeginsWithout IsBlank moment

-- the text is cut as far as it can be, and among its tokens a word AT stands right behind those that spell the CONNECT; the
-- moment begins behind the word and blanks
pub record HasMoment (text : List ℕ) (made : Connect) (place : ℕ) : Type 0 where
  pub tokens : List Token
  pub option : Token
  pub more : List Token
  pub end : Option LexRefusal
  pub reads : Reads 0 text (tokens ++ option ∷ more) end
  pub spelled : spells (grammar_of connect) (lexemes_of text tokens) made
  pub is_at : IsTrue (is at_word (lexeme_of text option))
  pub behind : PastBlanks (IsMomentAt place) option.to (drop option.to text)

-- the tokens behind a word AT
abbrev pub left_behind : Connect → Result (List Lexeme) (List Lexeme) → Option (Connect × ℕ)
left_behind made (Ok rest) = Some (made, length rest)
left_behind made (Err _) = None

-- what is read of a CONNECT, and how many tokens stand behind the word AT that follows it
abbrev pub option_of : Reading Lexeme Connect → Option (Connect × ℕ)
option_of (Ok q) = left_behind q.0 (expected (is at_word) q.1)
option_of (Err _) = None

-- any other byte
abbrev pub is_no_blank : ℕ → Bool
is_no_blank b = not (is_blank b)
