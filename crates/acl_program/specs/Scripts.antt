-- Which bytes are a script that the program takes, and which are none, and why.
use Rattle.std.specs.Prelude.{ℕ, List}
use Rattle.grant_refusal.specs.declared.ParseRefusal.{ParseRefusal}
use Rattle.script_lines.specs.Refusals.{IsBadLine, IsBeyond}
use Rattle.script_lines.specs.Script.{IsTaken}
use Rattle.script_lines.specs.declared.lines.Line.{Line}
use Rattle.script_lines.specs.declared.refusal.Which.{Which}
use Rattle.script_read.specs.Built.{IsBuiltCommand, IsBuiltRefusal}
use Rattle.script_read.specs.declared.command.Command.{Command}
use Rattle.script_run.specs.Forms.{is_built}

-- the bytes are a script of these lines, with these sessions, within the limits; each command has a form that is run
abbrev pub IsScript : List ℕ → List (List ℕ) → List (Line Command) → Type 0
IsScript = IsTaken (IsBuiltCommand is_built)

-- the line with this number is the first without a spelling, or with a command whose form is not run yet
abbrev pub IsBadScript : List ℕ → ℕ → ParseRefusal → Type 0
IsBadScript = IsBadLine (IsBuiltCommand is_built) (IsBuiltRefusal is_built)

-- more than this many bytes, else lines, else sessions before the first such line
abbrev pub IsTooMuch : List ℕ → Which → ℕ → Type 0
IsTooMuch = IsBeyond (IsBuiltCommand is_built)

-- the bytes are some script
pub record HasScript (bytes : List ℕ) : Type 0 where
  pub names : List (List ℕ)
  pub lines : List (Line Command)
  pub script : IsScript bytes names lines
