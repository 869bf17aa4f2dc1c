use Rattle.std.proofs.Common.{rules}
use Rattle.made_scripts.proofs.Steps.{first_step}
use Rattle.made_scripts.proofs.script.write_first_lines.Goals as goal

pub loop-session-preserved : goal.loop-session-preserved
loop-session-preserved c =
    first_step _ _ _ c.loop-session.session-counter c.args.sessions (search rules) c.loop-session.invariant c.in_ok-writeln.ensures.bytes
