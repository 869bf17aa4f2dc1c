-- Texts behind their lengths.
use Rattle.std.specs.Prelude.{◌≡◌, ◌<◌, ◌^◌, ℕ, List, length}
use Rattle.std.specs.Str.{IsUtf8}

abbrev pub IsSize : ℕ → Type 0
IsSize size = size < 2 ^ 16

pub record IsOfLength (count : ℕ) (text : List ℕ) : Type 0 where
  pub utf8 : IsUtf8 text
  pub long : length text ≡ count

-- a text whose length fits two bytes
pub record IsShort (text : List ℕ) : Type 0 where
  pub utf8 : IsUtf8 text
  pub short : length text < 2 ^ 16

-- a text whose length fits four bytes
pub record IsLong (text : List ℕ) : Type 0 where
  pub utf8 : IsUtf8 text
  pub short : length text < 2 ^ 32
