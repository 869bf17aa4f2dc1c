-- What a script is: command lines, and the sessions in the order in which they first appear.
use Rattle.std.specs.Prelude.{◌≡◌, ℕ, ◌<◌, ◌≤◌, not, List, [], ◌∷◌, length, map, filter, slice_index_or}
use Rattle.std.specs.Str.{bytes_eq}
use Rattle.std.specs.Str.Lines.{lines}
use Rattle.script_lines.specs.Spelling.{Spells}
use Rattle.script_lines.specs.Texts.{command_lines}
use Rattle.script_lines.specs.declared.lines.Line.{Line}

-- names without their repeats, in the order in which they first appear
abbrev pub first_appearances : List (List ℕ) → List (List ℕ)
first_appearances [] = []
first_appearances (name ∷ names) = name ∷ filter (λ other. not (bytes_eq other name)) (first_appearances names)

-- the name of a line's session
abbrev pub owner : {Meaning : Type 0} → List (List ℕ) → Line Meaning → List ℕ
owner names line = slice_index_or names line.session []

-- the line with what its command means
abbrev pub seen : {Command Meaning : Type 0} → (Command → Meaning) → Line Command → Line Meaning
seen view line = record { number = line.number; session = line.session; command = view line.command }

-- the line is that of a text with a number, in a script with these sessions
pub record IsLine {Meaning : Type 0} (spelled : List ℕ → Meaning → Type 0) (names : List (List ℕ)) (text : ℕ × List ℕ) (line : Line Meaning) : Type 0 where
  pub number : line.number ≡ text.0
  pub session : line.session < length names
  pub spells : Spells spelled text.1 (owner names line) line.command

-- each line is that of its text, and no text is left over
abbrev pub EachIsLine : {Meaning : Type 0} → (List ℕ → Meaning → Type 0) → List (List ℕ) → List (ℕ × List ℕ) → List (Line Meaning) → Type 0
EachIsLine spelled names [] [] = Unit {0}
EachIsLine spelled names [] (line ∷ lines) = ⊥
EachIsLine spelled names (text ∷ texts) [] = ⊥
EachIsLine spelled names (text ∷ texts) (line ∷ lines) = IsLine spelled names text line × EachIsLine spelled names texts lines

-- these texts are the command lines of a script, with these sessions
pub record AreLines {Meaning : Type 0} (spelled : List ℕ → Meaning → Type 0) (texts : List (ℕ × List ℕ)) (names : List (List ℕ)) (lines : List (Line Meaning)) : Type 0 where
  pub each : EachIsLine spelled names texts lines
  pub sessions : first_appearances (map (owner names) lines) ≡ names

-- the bytes are a script of these lines, with these sessions
abbrev pub IsScript : {Meaning : Type 0} → (List ℕ → Meaning → Type 0) → List ℕ → List (List ℕ) → List (Line Meaning) → Type 0
IsScript spelled bytes names lines = AreLines spelled (command_lines bytes) names lines

-- neither too many bytes nor too many lines, those that are passed over among them
pub record IsWithinLimits (bytes : List ℕ) : Type 0 where
  pub bytes_are : length bytes ≤ 16777216
  pub lines_are : length (lines bytes) ≤ 200000

-- the bytes are a script within the limits
pub record IsTaken {Meaning : Type 0} (spelled : List ℕ → Meaning → Type 0) (bytes : List ℕ) (names : List (List ℕ)) (lines : List (Line Meaning)) : Type 0 where
  pub within : IsWithinLimits bytes
  pub script : IsScript spelled bytes names lines
  pub few : length names ≤ 64
