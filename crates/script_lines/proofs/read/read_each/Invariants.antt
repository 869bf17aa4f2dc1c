use Rattle.std.proofs.Common.{length, map}
use Rattle.script_lines.specs.Script.{seen}
use Rattle.script_lines.proofs.Reading.{IsReadUpTo}
use Rattle.script_lines.proofs.read.read_each.Given as goal

abbrev pub invariant-lines : goal.invariant-lines
invariant-lines g l = IsReadUpTo g.C.Commands.spelled l.bytes l.rest l.number l.script.sessions (map (seen g.C.Commands.view) l.script.lines)

abbrev pub decreases-lines : goal.decreases-lines
decreases-lines g l = length l.rest
