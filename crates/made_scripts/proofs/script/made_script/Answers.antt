use Rattle.std.proofs.Common.{◌≡◌, ◌∙◌, ◌≤◌, ◌+◌, ◌*◌, ◌++◌, length, ap, sym, subst, List, ℕ, string_bytes}
use Rattle.std.specs.List.{flat_map, range_with_len}
use Rattle.made_scripts.specs.Draws.{lines_from}
use Rattle.made_scripts.specs.Scripts.{made}
use Rattle.made_scripts.specs.Texts.{first_line, line_text}
use Rattle.made_scripts.proofs.Lengths.{made_is_short}
use Rattle.made_scripts.proofs.script.made_script.Goals as goal

pub returns-clause-short : goal.returns-clause-short
returns-clause-short c =
    let lines : List ℕ = flat_map line_text (lines_from c.args.sessions c.args.number c.args.lines) in
    let firsts : List ℕ = flat_map first_line (range_with_len 0 c.args.sessions) in
    let front = c.in_ok-write_first_lines.ensures ∙ ap (λ t. t ++ firsts) c.new-script.ensures.bytes in
    let same : string_bytes c.write_lines.new.script ≡ made c.args.number c.args.sessions c.args.lines =
    c.in_ok-write_lines.ensures ∙ ap (λ t. t ++ lines) front in
    λ few. subst (λ t. length t ≤ 40 * (c.args.sessions + c.args.lines)) (sym same) (made_is_short c.args.number c.args.sessions c.args.lines c.requires few)
