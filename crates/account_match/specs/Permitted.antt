-- Which names of clients are compared with hosts. MySQL 8.0 Reference Manual, "Specifying Account Names".
use Rattle.std.specs.Prelude.{ℕ, Bool, not, ◌==◌, ◌||◌, List, length, Option, Some, None, position, slice_index}
use Rattle.std.specs.Char.{is_ascii_digit}

-- the place of the first byte that is no digit
abbrev pub first_other : List ℕ → Option ℕ
first_other name = position (λ byte. not (is_ascii_digit byte)) name

abbrev pub permitted_by : Option ℕ → List ℕ → Bool
permitted_by (Some digits) name = digits == 0 || not (slice_index name digits == 46)
permitted_by None name = not (length name == 0)

-- not empty, and not one or more digits with a dot behind them at the front
abbrev pub is_permitted : List ℕ → Bool
is_permitted name = permitted_by (first_other name) name
