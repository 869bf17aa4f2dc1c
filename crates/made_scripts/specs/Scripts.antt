-- Made scripts.
use Rattle.std.specs.Prelude.{ℕ, List, ◌++◌}
use Rattle.std.specs.List.{flat_map, range_with_len}
use Rattle.made_scripts.specs.Draws.{lines_from}
use Rattle.made_scripts.specs.Texts.{first_line, line_text}

-- the script that is made from a number, for so many sessions, with so many lines behind those that connect them
abbrev pub made : ℕ → ℕ → ℕ → List ℕ
made number sessions lines = flat_map first_line (range_with_len 0 sessions) ++ flat_map line_text (lines_from sessions number lines)
