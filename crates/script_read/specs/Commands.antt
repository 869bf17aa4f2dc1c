-- Which texts are commands, and why a text is none. Statements are among the commands.
use Rattle.std.specs.Prelude.{◌≡◌, ◌⊎◌, ◌<◌, ◌≤◌, ℕ, ℤ, List, length, drop, Some, None}
use Rattle.acl_stmt.specs.declared.statement.Statement.{Statement}
use Rattle.civil_moment.specs.Moment.{moment_of}
use Rattle.grant_refusal.specs.declared.ParseRefusal.{ParseRefusal}
use Rattle.grant_refusal.specs.declared.ParseRefusal.TheVariants.{Limit, Syntax, WrongLevel, NoMemory}
use Rattle.grant_parse.specs.Texts.{IsSpelled, IsSyntax}
use Rattle.priv_sets.specs.declared.privilege.Privilege.{Privilege}
use Rattle.privilege_statements.specs.declared.statement.RawStatement.{RawStatement}
use Rattle.script_commands.specs.Moments.{HasMoment}
use Rattle.script_commands.specs.declared.command.Connect.{Connect}
use Rattle.script_commands.specs.declared.command.RawCommand.{RawCommand}
use Rattle.script_read.specs.Written.{MeansWritten, SpellsWritten, connect_at, written_fault}
use Rattle.script_read.specs.declared.command.Command.{Command}

-- the text begins with no CONNECT that has the option AT
abbrev pub HasNoOption : List ℕ → Type 0
HasNoOption text = (connect : Connect) (place : ℕ) → HasMoment text connect place → ⊥

-- a CONNECT with the option AT, and behind it a moment and nothing else
pub record IsTimed (text : List ℕ) (command : Command) : Type 0 where
  pub connect : Connect
  pub place : ℕ
  pub moment : ℤ
  pub has_moment : HasMoment text connect place
  pub moment_is : moment_of (drop place text) ≡ Some moment
  pub command_is : command ≡ connect_at connect (Some moment)

-- a CONNECT with the option AT, and behind it at this place no moment
pub record IsMistimed (text : List ℕ) (place : ℕ) : Type 0 where
  pub connect : Connect
  pub has_moment : HasMoment text connect place
  pub is_none : moment_of (drop place text) ≡ None

-- tokens that spell a command without that option, or a statement, whose privileges have the level of their target
pub record IsUntimed (text : List ℕ) (command : Command) : Type 0 where
  pub no_option : HasNoOption text
  pub written : RawCommand ⊎ (Statement ⊎ RawStatement)
  pub spelled : IsSpelled SpellsWritten text written
  pub fits : written_fault written ≡ None
  pub means : MeansWritten written command

-- the text, of at most 4,096 bytes, is the command
pub record IsCommand (text : List ℕ) (command : Command) : Type 0 where
  pub short : length text ≤ 4096
  pub kind : IsTimed text command ⊎ IsUntimed text command

-- tokens without that option, which spell no command and no statement, and this is where
pub record IsMisspelled (text : List ℕ) (offset : ℕ) : Type 0 where
  pub no_option : HasNoOption text
  pub syntax : IsSyntax SpellsWritten text offset

-- tokens without that option, which spell a CHECK or a statement that names this privilege without the level of the target
pub record IsMisplaced (text : List ℕ) (privilege : Privilege) : Type 0 where
  pub no_option : HasNoOption text
  pub written : RawCommand ⊎ (Statement ⊎ RawStatement)
  pub spelled : IsSpelled SpellsWritten text written
  pub fault : written_fault written ≡ Some privilege

-- why the text is no command; want of memory is no cause
abbrev pub IsCommandRefusal : List ℕ → ParseRefusal → Type 0
IsCommandRefusal text Limit = 4096 < length text
IsCommandRefusal text (Syntax offset) = (length text ≤ 4096) × (IsMistimed text offset ⊎ IsMisspelled text offset)
IsCommandRefusal text (WrongLevel privilege) = (length text ≤ 4096) × IsMisplaced text privilege
IsCommandRefusal text NoMemory = ⊥
