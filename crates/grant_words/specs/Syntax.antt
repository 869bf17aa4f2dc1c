-- Grammars over classes of tokens.
use Rattle.std.specs.Prelude.{ℕ, List}
use Rattle.acl_grammar.specs.Grammar.{Grammar}
use Rattle.acl_grammar.specs.Grammar.Grammar.{token as a_token, after as an_after, empty as an_empty, both as a_both, to as a_to, choice as a_choice, list as a_list, many as a_many}
use Rattle.grant_words.specs.Classes.{Class, is}
use Rattle.grant_words.specs.declared.lexeme.Lexeme.{Lexeme}

pub data Syntax : Type 0 → Type 1 where
  -- one token of a class, whose value means this
  token : {A : Type 0} → Class → (List ℕ → A) → Syntax A
  -- a token of a class, as a keyword or a mark, before more
  after : {A : Type 0} → Class → Syntax A → Syntax A
  -- nothing, which means this
  empty : {A : Type 0} → A → Syntax A
  -- one rule, and behind it another
  both : {A B : Type 0} → Syntax A → Syntax B → Syntax (A × B)
  -- the same tokens, which mean something else
  to : {A B : Type 0} → (A → B) → Syntax A → Syntax B
  -- either of two rules
  choice : {A : Type 0} → Syntax A → Syntax A → Syntax A
  -- one or more of a rule, with a token of a class between each two
  list : {A : Type 0} → Class → Syntax A → Syntax (List A)
  -- any number of a rule, none among them, one behind the other
  many : {A : Type 0} → Syntax A → Syntax (List A)

abbrev pub grammar_of : {A : Type 0} → Syntax A → Grammar Lexeme A
grammar_of (token class value) = a_token (is class) (λ lexeme. value lexeme.value)
grammar_of (after class s) = an_after (is class) (grammar_of s)
grammar_of (empty a) = an_empty a
grammar_of (both s r) = a_both (grammar_of s) (grammar_of r)
grammar_of (to f s) = a_to f (grammar_of s)
grammar_of (choice s r) = a_choice (grammar_of s) (grammar_of r)
grammar_of (list class s) = a_list (is class) (grammar_of s)
grammar_of (many s) = a_many (grammar_of s)
