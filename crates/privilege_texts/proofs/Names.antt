-- Names in backquotes as tokens.
use Rattle.std.proofs.Common.{◌≡◌, ◌∙◌, refl, sym, ap, ℕ, true, List, [], ◌∷◌}
use Rattle.acl_grammar.specs.Spelling.{spells}
use Rattle.canonical_texts.specs.Tokens.{name}
use Rattle.grant_words.specs.Classes.{is, is_identifier}
use Rattle.grant_words.specs.Lexemes.{printed_lexeme}
use Rattle.grant_words.specs.Names.{ident}
use Rattle.grant_words.specs.Syntax.{grammar_of}
use Rattle.mandatory_roles.proofs.Names.{value_quoted}

pub ident_spelled : (text : List ℕ) → is_identifier text ≡ true → spells (grammar_of ident) (printed_lexeme (name text) ∷ []) text
unfolding ident is
ident_spelled text fits = (printed_lexeme (name text), ap is_identifier (value_quoted text) ∙ fits, refl, sym (value_quoted text))
