-- One line more of a script.
use Rattle.std.proofs.Common.{◌≡◌, ◌∙◌, ℕ, suc, ◌+◌, ◌-◌, ◌<◌, List, ◌++◌, ap, append_assoc, arith}
use Rattle.std.specs.List.{flat_map, range_with_len}
use Rattle.made_scripts.specs.Draws.{behind_line, line_at, lines_from}
use Rattle.made_scripts.specs.Texts.{first_line, line_text}

pub first_step : (before written total : List ℕ) (i n : ℕ) → i < n → before ++ flat_map first_line (range_with_len i (n - i)) ≡ total
    → written ≡ before ++ first_line i → written ++ flat_map first_line (range_with_len (i + 1) (n - (i + 1))) ≡ total
first_step before written total i n below so_far one =
    let left : n - i ≡ suc (n - (i + 1)) = omega arith in
    let rest : List ℕ = flat_map first_line (range_with_len (i + 1) (n - (i + 1))) in
    let here = rw left at so_far in
    ap (λ w. w ++ rest) one ∙ append_assoc before (first_line i) rest ∙ here

pub line_step : (before written total : List ℕ) (sessions state next i n : ℕ) → i < n
    → before ++ flat_map line_text (lines_from sessions state (n - i)) ≡ total
    → written ≡ before ++ line_text (line_at sessions state) → next ≡ behind_line state
    → written ++ flat_map line_text (lines_from sessions next (n - (i + 1))) ≡ total
line_step before written total sessions state next i n below so_far one same =
    let left : n - i ≡ suc (n - (i + 1)) = omega arith in
    let rest : List ℕ = flat_map line_text (lines_from sessions (behind_line state) (n - (i + 1))) in
    let here = rw left at so_far in
    ap (λ s. written ++ flat_map line_text (lines_from sessions s (n - (i + 1)))) same
    ∙ ap (λ w. w ++ rest) one ∙ append_assoc before (line_text (line_at sessions state)) rest ∙ here
