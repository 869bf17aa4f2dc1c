-- The lines of a script's bytes, and which of them have a command.
use Rattle.std.specs.Prelude.{◌≡◌, ℕ, ◌||◌, ◌==◌, Bool, false, not, List, [], ◌∷◌, filter, refl}
use Rattle.std.specs.List.{enumerate_from, list_all}
use Rattle.std.specs.Str.Lines.{lines}
use Rattle.grant_lex.specs.Class.{is_blank}

-- a text that begins with `#`
abbrev pub is_comment : List ℕ → Bool
is_comment [] = false
is_comment (first ∷ rest) = first == 35

-- a line that is passed over: one of spaces and tabs alone, the empty one too, or one that begins with `#`
abbrev pub is_passed_over : List ℕ → Bool
is_passed_over text = list_all is_blank text || is_comment text

-- lines with their numbers, the first one having this number; those that are passed over are counted and left out
abbrev pub numbered : ℕ → List (List ℕ) → List (ℕ × List ℕ)
numbered number texts = filter (λ line. not (is_passed_over line.1)) (enumerate_from number texts)

-- the lines that have a command, with their numbers, which count all lines from 1
abbrev pub command_lines : List ℕ → List (ℕ × List ℕ)
command_lines bytes = numbered 1 (lines bytes)

-- `a` CR LF, LF, `#` LF, tab LF, space `#` LF, `b` CR
counts_lines : command_lines (97 ∷ 13 ∷ 10 ∷ 10 ∷ 35 ∷ 10 ∷ 9 ∷ 10 ∷ 32 ∷ 35 ∷ 10 ∷ 98 ∷ 13 ∷ []) ≡ (1, 97 ∷ []) ∷ (5, 32 ∷ 35 ∷ []) ∷ (6, 98 ∷ 13 ∷ []) ∷ []
counts_lines = refl
