use Rattle.std.proofs.Common.{◌≡◌, ◌++◌, ◌-◌, string_bytes}
use Rattle.std.specs.List.{flat_map, range_with_len}
use Rattle.made_scripts.specs.Texts.{first_line}
use Rattle.made_scripts.proofs.script.write_first_lines.Given as goal

abbrev pub invariant-loop-session : goal.invariant-loop-session
invariant-loop-session l =
    string_bytes l.script ++ flat_map first_line (range_with_len l.session-counter (l.sessions - l.session-counter))
    ≡ string_bytes l.initial.script ++ flat_map first_line (range_with_len 0 l.sessions)
