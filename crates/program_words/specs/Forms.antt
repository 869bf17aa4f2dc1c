-- What the words after the program's name ask for.
use Rattle.std.specs.Prelude.{ℕ, ◌≤◌, Bool, true, ◌&&◌, ◌==◌, not, nat_le, if◌then◌else◌, List, [], ◌∷◌, codes, length, Option, None, Some}
use Rattle.std.specs.Char.{is_ascii_digit}
use Rattle.std.specs.List.{list_all}
use Rattle.std.specs.Str.{bytes_eq}
use Rattle.std.specs.Str.Parse.{digits_value}
use Rattle.program_words.specs.declared.form.Form.{Form}
use Rattle.program_words.specs.declared.form.Form.TheVariants.{Step, Make}

-- a word that does not begin with `-`
abbrev pub is_operand : List ℕ → Bool
is_operand [] = true
is_operand (first ∷ rest) = not (first == 45)

-- 1 to 20 decimal digits, with any number of zeros in front
abbrev pub is_number : List ℕ → Bool
is_number text = (nat_le 1 (length text) && nat_le (length text) 20) && list_all is_ascii_digit text

-- the number, if it lies between these two
abbrev pub within : ℕ → ℕ → ℕ → Option ℕ
within least most number = if nat_le least number && nat_le number most then Some number else None

-- the number that the text writes, if it lies between these two
abbrev pub number_between : ℕ → ℕ → List ℕ → Option ℕ
number_between least most text = if is_number text then within least most (digits_value 10 text) else None

-- `make` with these three numbers, if there are three
abbrev pub make_of : Option ℕ → Option ℕ → Option ℕ → Option Form
make_of None sessions lines = None
make_of (Some number) None lines = None
make_of (Some number) (Some sessions) None = None
make_of (Some number) (Some sessions) (Some lines) = Some (Make number sessions lines)

-- NUMBER, SESSIONS and LINES
abbrev pub make_from : List ℕ → List ℕ → List ℕ → Option Form
make_from number sessions lines =
    make_of (number_between 0 18446744073709551615 number) (number_between 1 64 sessions) (number_between 1 199936 lines)

-- the form with this name and these operands
abbrev pub form_with : List ℕ → List (List ℕ) → Option Form
form_with command [] = None
form_with command (one ∷ []) = None
form_with command (script ∷ journal ∷ []) = if bytes_eq command (codes "step") then Some Step else None
form_with command (number ∷ sessions ∷ lines ∷ []) =
    if bytes_eq command (codes "make") then make_from number sessions lines else None
form_with command (one ∷ two ∷ three ∷ four ∷ more) = None

-- what all the words ask for: None where they are none of the forms
abbrev pub form_of : List (List ℕ) → Option Form
form_of [] = None
form_of (command ∷ operands) = if list_all is_operand operands then form_with command operands else None

-- the numbers of `make` lie within their bounds
abbrev pub IsWithin : Form → Type 0
IsWithin Step = Unit {0}
IsWithin (Make number sessions lines) = (1 ≤ sessions) × (sessions ≤ 64) × (1 ≤ lines) × (lines ≤ 199936)
