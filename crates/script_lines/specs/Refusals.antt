-- Which bytes are no script that is taken, and why.
use Rattle.std.specs.Prelude.{◌≡◌, ℕ, ◌<◌, ◌≤◌, ◌⊎◌, List, ◌∷◌, ◌++◌, length, Result, Err}
use Rattle.std.specs.Str.Lines.{lines}
use Rattle.grant_refusal.specs.declared.ParseRefusal.{ParseRefusal}
use Rattle.grant_refusal.specs.declared.ParseRefusal.TheVariants.{Limit as TooLong, Syntax, WrongLevel, NoMemory as NoMemoryForLine}
use Rattle.script_lines.specs.Script.{AreLines, IsWithinLimits}
use Rattle.script_lines.specs.Spelling.{IsLineRefused}
use Rattle.script_lines.specs.Texts.{command_lines}
use Rattle.script_lines.specs.declared.lines.Line.{Line}
use Rattle.script_lines.specs.declared.refusal.CommandRefusal.{CommandRefusal}
use Rattle.script_lines.specs.declared.refusal.ScriptRefusal.{ScriptRefusal}
use Rattle.script_lines.specs.declared.refusal.ScriptRefusal.TheVariants.{BadLine, Limit, NoMemory}
use Rattle.script_lines.specs.declared.refusal.Which.{Which}
use Rattle.script_lines.specs.declared.refusal.Which.TheVariants.{Bytes, Lines, Sessions}

-- these texts are the lines of a script with some sessions
pub record HaveSessions {Meaning : Type 0} (spelled : List ℕ → Meaning → Type 0) (texts : List (ℕ × List ℕ)) : Type 0 where
  pub names : List (List ℕ)
  pub lines : List (Line Meaning)
  pub are_lines : AreLines spelled texts names lines

-- the text with this number is the first that is refused, and is refused so: those before it are lines of a script with at
-- most 64 sessions
pub record IsFirstRefused {Meaning : Type 0} (spelled : List ℕ → Meaning → Type 0) (refused : List ℕ → CommandRefusal → Type 0) (texts : List (ℕ × List ℕ)) (number : ℕ) (refusal : ParseRefusal) : Type 0 where
  pub front : List (ℕ × List ℕ)
  pub text : List ℕ
  pub behind : List (ℕ × List ℕ)
  pub texts_are : texts ≡ front ++ (number, text) ∷ behind
  pub spelled_front : HaveSessions spelled front
  pub few : length spelled_front.names ≤ 64
  pub is_refused : IsLineRefused refused text refusal

-- some of the texts, from the first one on, are lines of a script with more than this many sessions
pub record HasMoreSessions {Meaning : Type 0} (spelled : List ℕ → Meaning → Type 0) (texts : List (ℕ × List ℕ)) (number : ℕ) : Type 0 where
  pub front : List (ℕ × List ℕ)
  pub behind : List (ℕ × List ℕ)
  pub texts_are : texts ≡ front ++ behind
  pub spelled_front : HaveSessions spelled front
  pub many : number < length spelled_front.names

-- more than this many bytes, else lines, else sessions before the first line that is refused
abbrev pub IsBeyond : {Meaning : Type 0} → (List ℕ → Meaning → Type 0) → List ℕ → Which → ℕ → Type 0
IsBeyond spelled bytes Bytes number = (number ≡ 16777216) × (16777216 < length bytes)
IsBeyond spelled bytes Lines number = (number ≡ 200000) × (length bytes ≤ 16777216) × (200000 < length (lines bytes))
IsBeyond spelled bytes Sessions number = (number ≡ 64) × IsWithinLimits bytes × HasMoreSessions spelled (command_lines bytes) 64

-- want of memory is no fault of a line
abbrev pub IsLineFault : ParseRefusal → Type 0
IsLineFault TooLong = Unit {0}
IsLineFault (Syntax offset) = Unit {0}
IsLineFault (WrongLevel privilege) = Unit {0}
IsLineFault NoMemoryForLine = ⊥

-- the line with this number is the first that is refused, and is refused so
pub record IsBadLine {Meaning : Type 0} (spelled : List ℕ → Meaning → Type 0) (refused : List ℕ → CommandRefusal → Type 0) (bytes : List ℕ) (number : ℕ) (refusal : ParseRefusal) : Type 0 where
  pub within : IsWithinLimits bytes
  pub first : IsFirstRefused spelled refused (command_lines bytes) number refusal
  pub is_fault : IsLineFault refusal

-- the bytes are refused so; want of memory says nothing of them
abbrev pub IsScriptRefusal : {Meaning : Type 0} → (List ℕ → Meaning → Type 0) → (List ℕ → CommandRefusal → Type 0) → List ℕ → ScriptRefusal → Type 0
IsScriptRefusal spelled refused bytes (BadLine number refusal) = IsBadLine spelled refused bytes number refusal
IsScriptRefusal spelled refused bytes (Limit which number) = IsBeyond spelled bytes which number
IsScriptRefusal spelled refused bytes NoMemory = Unit {0}

-- the script is refused so, unless memory ran out
abbrev pub RefusesScript : {Script : Type 0} → Result Script ScriptRefusal → ScriptRefusal → Type 0
RefusesScript result refusal = (result ≡ Err refusal) ⊎ (result ≡ Err NoMemory)
