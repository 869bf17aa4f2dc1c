use Rattle.std.proofs.Common.{◌≡◌, ℕ, ◌<◌, true, get_or}
use Rattle.script_lines.specs.Beginnings.{is_session_byte}
use Rattle.script_lines.proofs.beginning.name_length.Given as goal

abbrev pub invariant-loop-place : goal.invariant-loop-place
invariant-loop-place l = (k : ℕ) → k < l.place → is_session_byte (get_or l.text k 0) ≡ true
