-- The tokens of canonical texts with what they stand for.
use Rattle.std.specs.Prelude.{◌≡◌, List, codes, refl}
use Rattle.acl_stmt.specs.declared.statement.Statement.{Statement}
use Rattle.grant_lex.specs.Value.{inside_value}
use Rattle.grant_lex.specs.declared.sorts.Kind.TheVariants.{Backquoted}
use Rattle.grant_words.specs.Lexemes.{printed_lexeme, printed_lexemes}
use Rattle.grant_words.specs.declared.lexeme.Lexeme.{Lexeme}
use Rattle.canonical_texts.specs.StatementTokens.{canonical_tokens}
use Rattle.canonical_texts.specs.Tokens.{name}

-- the tokens of the canonical text, in order
abbrev pub canonical_lexemes : Statement → List Lexeme
canonical_lexemes statement = printed_lexemes (canonical_tokens statement)

example-name : printed_lexeme (name (codes "a`b")) ≡ record { kind = Backquoted; value = codes "a`b" }
unfolding inside_value
example-name = refl
