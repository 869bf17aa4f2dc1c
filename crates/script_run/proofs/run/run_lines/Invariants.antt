use Rattle.std.proofs.Common.{take}
use Rattle.map_publish.specs.History.{entries_of}
use Rattle.script_run.proofs.Running.{IsUnderWay}
use Rattle.script_run.proofs.run.run_lines.Given as goal

abbrev pub invariant-loop-line : goal.invariant-loop-line
invariant-loop-line l = IsUnderWay (take l.line-index l.lines) l.answers.items l.sessions l.seats.items (entries_of l.published)
