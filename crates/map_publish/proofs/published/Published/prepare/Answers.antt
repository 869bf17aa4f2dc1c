use Rattle.map_publish.proofs.Histories.{refused_as}
use Rattle.map_publish.proofs.published.Published.prepare.Goals as goal

pub returns-in-Err-clause-err : goal.returns-in-Err-clause-err
returns-in-Err-clause-err c = refused_as _ _ c.args.entry c.in-Err.refusal c.args.self.now.stands c.in-Err.ensures.err
