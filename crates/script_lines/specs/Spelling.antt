-- How a command line is spelled, and why a line is none.
use Rattle.std.specs.Prelude.{◌≡◌, ℕ, ◌+◌, ◌<◌, ◌≤◌, ◌⊎◌, IsTrue, List, length}
use Rattle.std.specs.Str.{IsUtf8}
use Rattle.std.specs.Str.Lossy.{utf8_valid_len}
use Rattle.grant_refusal.specs.declared.ParseRefusal.{ParseRefusal}
use Rattle.grant_refusal.specs.declared.ParseRefusal.TheVariants.{Limit, Syntax, WrongLevel, NoMemory}
use Rattle.script_lines.specs.Beginnings.{is_session_name, line_text, IsUnbegun}
use Rattle.script_lines.specs.declared.refusal.CommandRefusal.{CommandRefusal}
use Rattle.script_lines.specs.declared.refusal.CommandRefusal.TheVariants.{Text, Unbuilt}

-- the text is UTF-8: a session's name and `> `, and then the text of a command
pub record IsCommandLine (text name command : List ℕ) : Type 0 where
  pub utf8 : IsUtf8 text
  pub is_name : IsTrue (is_session_name name)
  pub text_is : text ≡ line_text name command

-- the text spells a command of the session with this name
pub record Spells {Meaning : Type 0} (spelled : List ℕ → Meaning → Type 0) (text name : List ℕ) (meaning : Meaning) : Type 0 where
  pub command : List ℕ
  pub cut : IsCommandLine text name command
  pub means : spelled command meaning

-- the refusal, its offset counted from so many bytes further in front
abbrev pub refusal_behind : ℕ → ParseRefusal → ParseRefusal
refusal_behind bytes Limit = Limit
refusal_behind bytes (Syntax offset) = Syntax (bytes + offset)
refusal_behind bytes (WrongLevel privilege) = WrongLevel privilege
refusal_behind bytes NoMemory = NoMemory

-- the refusal of a line whose command is refused so behind so many bytes; a form that is not built is refused at the line's
-- first byte
abbrev pub refusal_on_line : ℕ → CommandRefusal → ParseRefusal
refusal_on_line bytes (Text refusal) = refusal_behind bytes refusal
refusal_on_line bytes Unbuilt = Syntax 0

-- the text is not UTF-8: the fault stands where its valid part ends
pub record IsBroken (text : List ℕ) (refusal : ParseRefusal) : Type 0 where
  pub broken : IsUtf8 text → ⊥
  pub refusal_is : refusal ≡ Syntax (utf8_valid_len text)

-- the text is UTF-8 and does not begin as a command line does
pub record IsNoLine (text : List ℕ) (refusal : ParseRefusal) : Type 0 where
  pub utf8 : IsUtf8 text
  pub place : ℕ
  pub unbegun : IsUnbegun text place
  pub refusal_is : refusal ≡ Syntax place

-- the text begins as a command line does, and its command is refused
pub record IsNoCommand (refused : List ℕ → CommandRefusal → Type 0) (text : List ℕ) (refusal : ParseRefusal) : Type 0 where
  pub name : List ℕ
  pub command : List ℕ
  pub cause : CommandRefusal
  pub cut : IsCommandLine text name command
  pub is_cause : refused command cause
  pub refusal_is : refusal ≡ refusal_on_line (length name + 2) cause

-- the line is refused so
abbrev pub IsLineRefused : (List ℕ → CommandRefusal → Type 0) → List ℕ → ParseRefusal → Type 0
IsLineRefused refused text refusal = IsBroken text refusal ⊎ (IsNoLine text refusal ⊎ IsNoCommand refused text refusal)

-- what is said of a refusal; want of memory says nothing of the text
abbrev pub Says : (ParseRefusal → Type 0) → ParseRefusal → Type 0
Says P Limit = P Limit
Says P (Syntax offset) = P (Syntax offset)
Says P (WrongLevel privilege) = P (WrongLevel privilege)
Says P NoMemory = Unit {0}

-- the same of the refusal of a command
abbrev pub SaysOfCommand : (CommandRefusal → Type 0) → CommandRefusal → Type 0
SaysOfCommand P (Text refusal) = Says (λ cause. P (Text cause)) refusal
SaysOfCommand P Unbuilt = P Unbuilt

-- a place that is told is one of the text, or its end
abbrev pub IsPlaced : List ℕ → ParseRefusal → Type 0
IsPlaced text Limit = Unit {0}
IsPlaced text (Syntax offset) = offset ≤ length text
IsPlaced text (WrongLevel privilege) = Unit {0}
IsPlaced text NoMemory = Unit {0}

abbrev pub IsPlacedIn : List ℕ → CommandRefusal → Type 0
IsPlacedIn text (Text refusal) = IsPlaced text refusal
IsPlacedIn text Unbuilt = Unit {0}

-- an offset that is told is below this number
abbrev pub IsOffsetBelow : ℕ → ParseRefusal → Type 0
IsOffsetBelow most Limit = Unit {0}
IsOffsetBelow most (Syntax offset) = offset < most
IsOffsetBelow most (WrongLevel privilege) = Unit {0}
IsOffsetBelow most NoMemory = Unit {0}
