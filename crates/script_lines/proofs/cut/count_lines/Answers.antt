use Rattle.std.proofs.Common.{ap, length, arith}
use Rattle.script_lines.proofs.FirstLines.{length-lines}
use Rattle.script_lines.proofs.cut.count_lines.Goals as goal

pub overflow_add-count : goal.overflow_add-count
overflow_add-count c = omega (arith, length-lines c.args.bytes.now, ap length c.in-Some.ensures.first, c.requires)
