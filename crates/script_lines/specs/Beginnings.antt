-- How a command line begins: a session's name and `> `.
use Rattle.std.specs.Prelude.{◌≡◌, ℕ, ◌+◌, ◌<◌, ◌≤◌, Bool, ◌&&◌, ◌||◌, ◌==◌, nat_le, IsTrue, List, ◌++◌, length, take, codes}
use Rattle.std.specs.Char.{is_ascii_digit}
use Rattle.std.specs.List.{list_all}

-- a session's name: 1 to 32 letters from a to z, digits and underscores
abbrev pub is_session_byte : ℕ → Bool
is_session_byte byte = (nat_le 97 byte && nat_le byte 122) || (is_ascii_digit byte || byte == 95)

unfoldable pub is_session_name : List ℕ → Bool
is_session_name name = (nat_le 1 (length name) && nat_le (length name) 32) && list_all is_session_byte name

-- the text of a line
abbrev pub line_text : List ℕ → List ℕ → List ℕ
line_text name command = name ++ (codes "> " ++ command)

-- some session's name and `> ` begin with these bytes, or are these bytes
pub record IsLineFront (front : List ℕ) : Type 0 where
  pub name : List ℕ
  pub more : List ℕ
  pub is_name : IsTrue (is_session_name name)
  pub goes_on : front ++ more ≡ name ++ codes "> "

-- the text begins with no session's name and `> `, and the first byte at which no such beginning goes on stands at this
-- place, or the text ends there
pub record IsUnbegun (text : List ℕ) (place : ℕ) : Type 0 where
  pub within : place ≤ length text
  pub front : IsLineFront (take place text)
  pub stops : place < length text → IsLineFront (take (place + 1) text) → ⊥
  pub unbegun : (name command : List ℕ) → IsTrue (is_session_name name) → text ≡ line_text name command → ⊥
