-- Commands of the forms that a program runs.
use Rattle.std.specs.Prelude.{◌≡◌, ℕ, Bool, false, IsTrue, List}
use Rattle.script_lines.specs.declared.refusal.CommandRefusal.{CommandRefusal}
use Rattle.script_lines.specs.declared.refusal.CommandRefusal.TheVariants.{Text, Unbuilt}
use Rattle.script_read.specs.Commands.{IsCommand, IsCommandRefusal}
use Rattle.script_read.specs.declared.command.Command.{Command}

-- the text is the command, and its form is built
pub record IsBuiltCommand (built : Command → Bool) (text : List ℕ) (command : Command) : Type 0 where
  pub is_command : IsCommand text command
  pub is_built : IsTrue (built command)

-- the text is a command whose form is not built
pub record IsUnbuilt (built : Command → Bool) (text : List ℕ) : Type 0 where
  pub command : Command
  pub is_command : IsCommand text command
  pub not_built : built command ≡ false

-- why the text is no command of a built form: a text that is no command at all has its own cause
abbrev pub IsBuiltRefusal : (Command → Bool) → List ℕ → CommandRefusal → Type 0
IsBuiltRefusal built text (Text refusal) = IsCommandRefusal text refusal
IsBuiltRefusal built text Unbuilt = IsUnbuilt built text

-- the same where all forms are built
abbrev pub IsTextRefusal : List ℕ → CommandRefusal → Type 0
IsTextRefusal text (Text refusal) = IsCommandRefusal text refusal
IsTextRefusal text Unbuilt = ⊥
