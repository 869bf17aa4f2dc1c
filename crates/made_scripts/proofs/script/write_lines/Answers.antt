use Rattle.std.proofs.Common.{rules}
use Rattle.made_scripts.proofs.Steps.{line_step}
use Rattle.made_scripts.proofs.script.write_lines.Goals as goal

pub loop-count-preserved : goal.loop-count-preserved
loop-count-preserved c = line_step _ _ _ c.args.sessions c.loop-count.draws.state _ c.loop-count._count c.args.lines (search rules) c.loop-count.invariant (search rules) (search rules)
