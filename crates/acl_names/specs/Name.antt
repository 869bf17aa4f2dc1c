-- Which texts are names, and why another is none.
use Rattle.std.specs.Prelude.{◌≡◌, ℕ, List, [], ◌∷◌, Option, Some, None, length, position, nat_lt, if◌then◌else◌, refl}
use Rattle.std.specs.Char.{is_ascii_control}
use Rattle.std.specs.Str.{chars, str_to_ascii_lowercase}
use Rattle.acl_names.specs.declared.refusal.NameRefusal.{NameRefusal}
use Rattle.acl_names.specs.declared.refusal.NameRefusal.TheVariants.{BadByte, Empty, TooLong, NoMemory}

-- the first control byte of a text, or else what is to be said of the text without one
abbrev pub control_fault : Option ℕ → Option NameRefusal → Option NameRefusal
control_fault (Some offset) otherwise = Some (BadByte offset)
control_fault None otherwise = otherwise

-- a text of more characters than the limit
abbrev pub length_fault : ℕ → List ℕ → Option NameRefusal
length_fault limit text = if nat_lt limit (length (chars text)) then Some (TooLong limit) else None

-- what keeps a text from being a name of at most `limit` characters
abbrev pub name_fault : ℕ → List ℕ → Option NameRefusal
name_fault limit text = control_fault (position is_ascii_control text) (length_fault limit text)

-- what keeps a text from being an identifier of at most `limit` characters: it is not empty besides
abbrev pub ident_fault : ℕ → List ℕ → Option NameRefusal
ident_fault limit [] = Some Empty
ident_fault limit (byte ∷ rest) = name_fault limit (byte ∷ rest)

-- `ä` is the bytes 195 and 164, and one character
example-fits : name_fault 1 (195 ∷ 164 ∷ []) ≡ None
unfolding chars
example-fits = refl

example-too_long : name_fault 1 (195 ∷ 164 ∷ 97 ∷ []) ≡ Some (TooLong 1)
unfolding chars
example-too_long = refl

-- the first of two, whatever the length
example-control : name_fault 1 (97 ∷ 127 ∷ 31 ∷ []) ≡ Some (BadByte 1)
example-control = refl

-- a refusal for want of memory, or else for exactly this fault
abbrev pub IsRefusal : Option NameRefusal → NameRefusal → Type 0
IsRefusal fault NoMemory = Unit {0}
IsRefusal fault (BadByte offset) = fault ≡ Some (BadByte offset)
IsRefusal fault Empty = fault ≡ Some Empty
IsRefusal fault (TooLong limit) = fault ≡ Some (TooLong limit)

-- a name of at most `limit` characters in which no ASCII letter is an upper-case one
pub record IsLowerName (limit : ℕ) (text : List ℕ) : Type 0 where
  pub faultless : name_fault limit text ≡ None
  pub lowered : str_to_ascii_lowercase text ≡ text
