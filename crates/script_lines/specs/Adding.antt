-- What the next line adds to a script that is being read, and why it is refused.
use Rattle.std.specs.Prelude.{◌≡◌, ℕ, ◌<◌, ◌≤◌, false, if◌then◌else◌, List, [], ◌∷◌, ◌++◌, length, slice_index_or, MatchBool}
use Rattle.std.specs.List.{list_any}
use Rattle.std.specs.Str.{bytes_eq}
use Rattle.grant_refusal.specs.declared.ParseRefusal.{ParseRefusal}
use Rattle.grant_refusal.specs.declared.ParseRefusal.TheVariants.{Limit as TooLong, Syntax, WrongLevel, NoMemory as NoMemoryForLine}
use Rattle.script_lines.specs.Refusals.{IsLineFault}
use Rattle.script_lines.specs.Spelling.{IsLineRefused, Spells}
use Rattle.script_lines.specs.Texts.{is_passed_over}
use Rattle.script_lines.specs.declared.lines.Line.{Line}
use Rattle.script_lines.specs.declared.refusal.CommandRefusal.{CommandRefusal}
use Rattle.script_lines.specs.declared.refusal.ScriptRefusal.{ScriptRefusal}
use Rattle.script_lines.specs.declared.refusal.ScriptRefusal.TheVariants.{BadLine, Limit, NoMemory}
use Rattle.script_lines.specs.declared.refusal.Which.TheVariants.{Bytes, Lines, Sessions}

-- the names with one at their end, where it is not among them
abbrev pub with_name : List (List ℕ) → List ℕ → List (List ℕ)
with_name names name = if list_any (λ other. bytes_eq other name) names then names else names ++ name ∷ []

-- the sessions with this name, which stands at this place
pub record Seats (names new_names : List (List ℕ)) (name : List ℕ) (session : ℕ) : Type 0 where
  pub names_are : new_names ≡ with_name names name
  pub within : session < length new_names
  pub named : slice_index_or new_names session [] ≡ name

-- a text that spells a session's command is one line more
pub record AddsLine {Meaning : Type 0} (spelled : List ℕ → Meaning → Type 0) (text : ℕ × List ℕ) (names new_names : List (List ℕ)) (lines new_lines : List (Line Meaning)) : Type 0 where
  pub name : List ℕ
  pub meaning : Meaning
  pub session : ℕ
  pub spells : Spells spelled text.1 name meaning
  pub seats : Seats names new_names name session
  pub lines_are : new_lines ≡ lines ++ record { number = text.0; session = session; command = meaning } ∷ []

-- a text that is passed over adds nothing, and any other is a line more
abbrev pub Takes : {Meaning : Type 0} → (List ℕ → Meaning → Type 0) → ℕ × List ℕ → List (List ℕ) → List (List ℕ) → List (Line Meaning) → List (Line Meaning) → Type 0
Takes spelled text names new_names lines new_lines =
    MatchBool (is_passed_over text.1) ((new_names ≡ names) × (new_lines ≡ lines)) (AddsLine spelled text names new_names lines new_lines)

-- the line would be one more, and its session one too many
pub record AddsTooMany {Meaning : Type 0} (spelled : List ℕ → Meaning → Type 0) (text : ℕ × List ℕ) (names : List (List ℕ)) (lines : List (Line Meaning)) (number : ℕ) : Type 0 where
  pub new_names : List (List ℕ)
  pub new_lines : List (Line Meaning)
  pub adds : AddsLine spelled text names new_names lines new_lines
  pub many : number < length new_names

-- the line is refused so
pub record IsBad (refused : List ℕ → CommandRefusal → Type 0) (text : ℕ × List ℕ) (number : ℕ) (refusal : ParseRefusal) : Type 0 where
  pub number_is : number ≡ text.0
  pub is_fault : IsLineFault refusal
  pub is_refused : IsLineRefused refused text.1 refusal

-- why a line that has a command is not added; want of memory says nothing of it
abbrev pub IsNotAdded : {Meaning : Type 0} → (List ℕ → Meaning → Type 0) → (List ℕ → CommandRefusal → Type 0) → ℕ × List ℕ → List (List ℕ) → List (Line Meaning) → ScriptRefusal → Type 0
IsNotAdded spelled refused text names lines (BadLine number refusal) = IsBad refused text number refusal
IsNotAdded spelled refused text names lines (Limit Bytes number) = ⊥
IsNotAdded spelled refused text names lines (Limit Lines number) = ⊥
IsNotAdded spelled refused text names lines (Limit Sessions number) = (number ≡ 64) × AddsTooMany spelled text names lines 64
IsNotAdded spelled refused text names lines NoMemory = Unit {0}

-- why a line is not taken
abbrev pub IsNotTaken : {Meaning : Type 0} → (List ℕ → Meaning → Type 0) → (List ℕ → CommandRefusal → Type 0) → ℕ × List ℕ → List (List ℕ) → List (Line Meaning) → ScriptRefusal → Type 0
IsNotTaken spelled refused text names lines refusal = (is_passed_over text.1 ≡ false) × IsNotAdded spelled refused text names lines refusal

-- why a session is not seated: it is a new one, and there are 64
abbrev pub IsNotSeated : List (List ℕ) → List ℕ → ScriptRefusal → Type 0
IsNotSeated names name (BadLine number refusal) = ⊥
IsNotSeated names name (Limit Bytes number) = ⊥
IsNotSeated names name (Limit Lines number) = ⊥
IsNotSeated names name (Limit Sessions number) =
    (number ≡ 64) × (64 ≤ length names) × (list_any (λ other. bytes_eq other name) names ≡ false)
IsNotSeated names name NoMemory = Unit {0}

-- the refusal of the line with this number
abbrev pub refusal_of_line : ℕ → ParseRefusal → ScriptRefusal
refusal_of_line number TooLong = BadLine number TooLong
refusal_of_line number (Syntax offset) = BadLine number (Syntax offset)
refusal_of_line number (WrongLevel privilege) = BadLine number (WrongLevel privilege)
refusal_of_line number NoMemoryForLine = NoMemory
