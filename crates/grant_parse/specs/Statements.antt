-- Statements of all kinds (MySQL 8.0 Reference Manual, "Account Management Statements").
use Rattle.std.specs.Prelude.{◌⊎◌, List}
use Rattle.acl_grammar.specs.Grammar.{Grammar}
use Rattle.acl_grammar.specs.Spelling.{one_of, spells}
use Rattle.acl_stmt.specs.declared.statement.Statement.{Statement}
use Rattle.acl_stmt.specs.declared.target.Target.{Target}
use Rattle.grant_words.specs.Classes.Class.{mark}
use Rattle.grant_words.specs.Syntax.{Syntax, grammar_of}
use Rattle.grant_words.specs.Syntax.Syntax.{after, empty, both, to, choice}
use Rattle.grant_words.specs.declared.lexeme.Lexeme.{Lexeme}
use Rattle.priv_items.specs.declared.item.Named.{Named}
use Rattle.privilege_statements.specs.Statements.{privilege_statement, request}
use Rattle.privilege_statements.specs.declared.statement.RawStatement.{RawStatement}
use Rattle.user_statements.specs.Statements.{user_statement}

-- [ ; ]
unfoldable pub semicolon : Syntax (Unit {0})
semicolon = choice (after (mark 59) (empty (tt {0}))) (empty (tt {0}))

-- a statement that names no privileges
unfoldable pub user_rule : Syntax Statement
user_rule = to (λ v. v.0) (both user_statement semicolon)

-- a GRANT or a REVOKE of privileges
unfoldable pub privilege_rule : Syntax RawStatement
privilege_rule = to (λ v. v.0) (both privilege_statement semicolon)

abbrev pub statement_grammar : Grammar Lexeme (Statement ⊎ RawStatement)
statement_grammar = one_of (grammar_of user_rule) (grammar_of privilege_rule)

-- these tokens spell a statement, whatever the levels of its privileges
abbrev pub SpellsStatement : List Lexeme → Statement ⊎ RawStatement → Type 0
SpellsStatement = spells statement_grammar

-- these tokens spell the privileges and the target of a request, whatever the levels
abbrev pub SpellsRequest : List Lexeme → Named × Target → Type 0
SpellsRequest = spells (grammar_of request)
