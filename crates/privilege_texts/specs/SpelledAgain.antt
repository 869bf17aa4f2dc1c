-- Statements that the tokens of their canonical texts spell again.
use Rattle.std.specs.Prelude.{◌≡◌, None}
use mathlib.Core.Logic.{inr}
use Rattle.acl_grammar.specs.Spelling.{spells}
use Rattle.acl_stmt.specs.declared.statement.Statement.{Statement}
use Rattle.canonical_texts.specs.Lexemes.{canonical_lexemes}
use Rattle.grant_parse.specs.Meaning.{MeansStatement, level_fault}
use Rattle.grant_words.specs.Syntax.{grammar_of}
use Rattle.privilege_statements.specs.Statements.{privilege_statement}
use Rattle.privilege_statements.specs.declared.statement.RawStatement.{RawStatement}

-- the tokens of the canonical text spell a GRANT or a REVOKE, whose privileges have the level of their target, and which means
-- the statement
pub record IsSpelledAgain (statement : Statement) : Type 0 where
  pub raw : RawStatement
  pub spelled : spells (grammar_of privilege_statement) (canonical_lexemes statement) raw
  pub fits : level_fault (inr raw) ≡ None
  pub meant : MeansStatement (inr raw) statement
