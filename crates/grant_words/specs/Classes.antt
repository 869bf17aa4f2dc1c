-- Classes of tokens: what may stand at one place of a statement.
use Rattle.std.specs.Prelude.{ℕ, Bool, true, false, ◌&&◌, ◌==◌, not, is_none, List, [], ◌∷◌}
pub use Rattle.std.specs.Prelude.{is_none as no_fault}
use Rattle.std.specs.List.{list_any}
use Rattle.std.specs.Str.{str_eq_ignore_ascii_case, str_to_ascii_lowercase}
use Rattle.acl_names.specs.Limits.{ident_limit}
use Rattle.acl_names.specs.Name.{ident_fault}
use Rattle.grant_lex.specs.declared.sorts.Kind.{Kind}
use Rattle.grant_lex.specs.declared.sorts.Kind.TheVariants.{Word, Quoted, Backquoted, Mark}
use Rattle.grant_lex.specs.Reserved.{is_reserved}
use Rattle.grant_words.specs.declared.lexeme.Lexeme.{Lexeme}

-- what a value of a class is written as
pub data Sort : Type 0 where
  -- a word that is not reserved, a string, or a name in backquotes
  name : Sort
  -- a word, reserved or not, a string, or a name in backquotes
  any_name : Sort
  -- a string
  string : Sort
  -- a word, whose test is of its lower case
  plain_word : Sort

pub data Class : Type 0 where
  -- one of these keywords, which are written in capitals here, in any ASCII case
  keyword : List (List ℕ) → Class
  -- a mark
  mark : ℕ → Class
  -- an identifier: a word that is not reserved or a name in backquotes, within the limit of names
  identifier : Class
  -- a word that is not reserved or a name in backquotes, which is no identifier, but passes a test; the text is one that does
  longer : (List ℕ → Bool) → List ℕ → Class
  -- a token of a sort whose value passes a test; the text is one that does
  valued : Sort → (List ℕ → Bool) → List ℕ → Class

-- one keyword
abbrev pub word : List ℕ → Class
word text = keyword (text ∷ [])

abbrev pub is_identifier : List ℕ → Bool
is_identifier text = is_none (ident_fault ident_limit text)

abbrev pub is_one_of : List (List ℕ) → List ℕ → Bool
is_one_of words text = list_any (λ word. str_eq_ignore_ascii_case word text) words

abbrev pub has_mark : ℕ → Kind → Bool
has_mark byte (Mark other) = other == byte
has_mark byte _ = false

abbrev pub is_word : Kind → Bool
is_word Word = true
is_word _ = false

-- an unreserved word or a name in backquotes
abbrev pub is_identifier_token : Kind → List ℕ → Bool
is_identifier_token Word text = not (is_reserved text)
is_identifier_token Backquoted text = true
is_identifier_token _ text = false

abbrev pub has_sort : Sort → Kind → List ℕ → Bool
has_sort name Word text = not (is_reserved text)
has_sort name Quoted text = true
has_sort name Backquoted text = true
has_sort name (Mark _) text = false
has_sort any_name (Mark _) text = false
has_sort any_name _ text = true
has_sort string Quoted text = true
has_sort string _ text = false
has_sort plain_word Word text = true
has_sort plain_word _ text = false

-- what a test of the sort is of
abbrev pub tested : Sort → List ℕ → List ℕ
tested plain_word text = str_to_ascii_lowercase text
tested _ text = text

-- whether a token is of the class
unfoldable pub is : Class → Lexeme → Bool
is (keyword words) lexeme = is_word lexeme.kind && is_one_of words lexeme.value
is (mark byte) lexeme = has_mark byte lexeme.kind
is identifier lexeme = is_identifier_token lexeme.kind lexeme.value && is_identifier lexeme.value
is (longer test _) lexeme = is_identifier_token lexeme.kind lexeme.value && not (is_identifier lexeme.value) && test lexeme.value
is (valued sort test _) lexeme = has_sort sort lexeme.kind lexeme.value && test (tested sort lexeme.value)
