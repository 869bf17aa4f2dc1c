use Rattle.std.proofs.Common.{◌∙◌}
use Rattle.priv_map.specs.MapState.{state_in}
use Rattle.priv_map.proofs.Agreement.{verdict_agrees}
use Rattle.priv_map.proofs.map.PrivMap.verdict.Goals as goal

pub returns-in-Some : goal.returns-in-Some
returns-in-Some c = λ login used read. c.in-Some.ensures ∙ verdict_agrees c.args.acting.now login used (state_in c.args.self.now) read c.args.request.now

pub returns-in-None : goal.returns-in-None
returns-in-None c = λ login used read. c.in-None.ensures ∙ verdict_agrees c.args.acting.now login used (state_in c.args.self.now) read c.args.request.now
