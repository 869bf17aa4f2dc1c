use Rattle.std.proofs.Common.{◌≡◌, ◌++◌, ◌-◌, string_bytes}
use Rattle.std.specs.List.{flat_map}
use Rattle.made_scripts.specs.Draws.{lines_from}
use Rattle.made_scripts.specs.Texts.{line_text}
use Rattle.made_scripts.proofs.script.write_lines.Given as goal

abbrev pub invariant-loop-count : goal.invariant-loop-count
invariant-loop-count l =
    string_bytes l.script ++ flat_map line_text (lines_from l.sessions l.draws.state (l.lines - l._count))
    ≡ string_bytes l.initial.script ++ flat_map line_text (lines_from l.sessions l.fn.number l.lines)
