-- What tokens spell on a line of a script: a command, without the moment of a CONNECT, or a statement; and what that means.
use Rattle.std.specs.Prelude.{◌≡◌, ◌⊎◌, ℕ, ℤ, List, Option, None}
use mathlib.Core.Logic.{inl, inr}
use Rattle.acl_grammar.specs.Code.{either_view}
use Rattle.acl_grammar.specs.Grammar.{Grammar}
use Rattle.acl_grammar.specs.Spelling.{one_of, spells}
use Rattle.acl_grammar.specs.declared.either.Either.{Either}
use Rattle.acl_stmt.specs.declared.request.Request.{Request}
use Rattle.acl_stmt.specs.declared.statement.Statement.{Statement}
use Rattle.grant_parse.specs.Meaning.{MeansRequest, MeansStatement, level_fault, request_fault}
use Rattle.grant_parse.specs.Statements.{statement_grammar}
use Rattle.grant_words.specs.Syntax.{grammar_of}
use Rattle.grant_words.specs.declared.lexeme.Lexeme.{Lexeme}
use Rattle.priv_items.specs.Naming.{column_count, items_in}
use Rattle.priv_sets.specs.declared.privilege.Privilege.{Privilege}
use Rattle.privilege_statements.specs.Columns.{privileges_of}
use Rattle.privilege_statements.specs.declared.statement.RawStatement.{RawStatement}
use Rattle.script_commands.specs.Commands.{command}
use Rattle.script_commands.specs.declared.command.Connect.{Connect}
use Rattle.script_commands.specs.declared.command.RawCommand.{RawCommand}
use Rattle.script_commands.specs.declared.command.RawCommand.TheVariants as raw
use Rattle.script_read.specs.declared.command.Command.{Command}
use Rattle.script_read.specs.declared.command.Command.TheVariants as made

-- a command or a statement, whatever the levels of its privileges
abbrev pub written_grammar : Grammar Lexeme (RawCommand ⊎ (Statement ⊎ RawStatement))
written_grammar = one_of (grammar_of command) statement_grammar

abbrev pub SpellsWritten : List Lexeme → RawCommand ⊎ (Statement ⊎ RawStatement) → Type 0
SpellsWritten = spells written_grammar

-- the first privilege of a CHECK without the level of the target
abbrev pub command_fault : RawCommand → Option Privilege
command_fault (raw.Connect connect) = None
command_fault raw.Disconnect = None
command_fault (raw.UseSchema schema) = None
command_fault (raw.SetRole form) = None
command_fault (raw.Check privileges target) = request_fault (privileges, target)
command_fault (raw.ShowGrants account roles) = None
command_fault (raw.Await length turns) = None

-- the first privilege of a CHECK or a statement without the level of the target
abbrev pub written_fault : RawCommand ⊎ (Statement ⊎ RawStatement) → Option Privilege
written_fault (inl c) = command_fault c
written_fault (inr s) = level_fault s

-- the CONNECT at this moment, or at none
abbrev pub connect_at : Connect → Option ℤ → Command
connect_at connect moment = made.Connect connect.user connect.client connect.verifier moment

abbrev pub MeansCommand : RawCommand → Command → Type 0
MeansCommand (raw.Connect connect) c = c ≡ connect_at connect None
MeansCommand raw.Disconnect c = c ≡ made.Disconnect
MeansCommand (raw.UseSchema schema) c = c ≡ made.UseSchema schema
MeansCommand (raw.SetRole form) c = c ≡ made.SetRole form
MeansCommand (raw.Check privileges target) c = (request : Request) × MeansRequest (privileges, target) request × (c ≡ made.Check request)
MeansCommand (raw.ShowGrants account roles) c = c ≡ made.ShowGrants account roles
MeansCommand (raw.Await length turns) c = c ≡ made.Await length turns

abbrev pub MeansWritten : RawCommand ⊎ (Statement ⊎ RawStatement) → Command → Type 0
MeansWritten (inl written) c = MeansCommand written c
MeansWritten (inr written) c = (statement : Statement) × MeansStatement written statement × (c ≡ made.Statement statement)

-- how many columns are named
abbrev pub command_columns : RawCommand → ℕ
command_columns (raw.Connect connect) = 0
command_columns raw.Disconnect = 0
command_columns (raw.UseSchema schema) = 0
command_columns (raw.SetRole form) = 0
command_columns (raw.Check privileges target) = column_count (items_in privileges)
command_columns (raw.ShowGrants account roles) = 0
command_columns (raw.Await length turns) = 0

abbrev pub written_columns : RawCommand ⊎ (Statement ⊎ RawStatement) → ℕ
written_columns (inl written) = command_columns written
written_columns (inr (inl statement)) = 0
written_columns (inr (inr written)) = column_count (items_in (privileges_of written))

-- what is read by one of the three rules
abbrev pub as_written : Either RawCommand (Either Statement RawStatement) → RawCommand ⊎ (Statement ⊎ RawStatement)
as_written = either_view (λ command. command) (either_view (λ statement. statement) (λ statement. statement))
