-- Texts as their bytes.
use Rattle.std.specs.Prelude.{ℕ, Bool, List, nat_eq}
use Rattle.std.specs.declared.cmp.Ordering.{Ordering}
use Rattle.std.specs.Ordering.{nat_cmp}
use Rattle.std.specs.Cmp.Lexicographic.{pointwise, slice_cmp}
use Rattle.std.specs.Str.{str_to_ascii_lowercase}

-- the same bytes
abbrev pub text_eq : List ℕ → List ℕ → Bool
text_eq = pointwise nat_eq

-- by the first byte that differs, and a text before those that it begins
abbrev pub text_cmp : List ℕ → List ℕ → Ordering
text_cmp = slice_cmp nat_cmp

-- no ASCII letter is an upper-case one
abbrev pub is_lower : List ℕ → Bool
is_lower text = text_eq (str_to_ascii_lowercase text) text
