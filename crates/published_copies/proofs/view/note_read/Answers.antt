use Rattle.std.proofs.Common.{List, ap, subst}
use mathlib.Core.List.{IsPrefix}
use Rattle.published_copies.specs.declared.stage.Stage.{Stage}
use Rattle.published_copies.proofs.Hearing.{heard_on}
use Rattle.published_copies.proofs.view.note_read.Goals as goal

pub returns-clause-on : goal.returns-clause-on
returns-clause-on g c =
    let known = c.args.known.now in
    let both = c.learn.new.self.log in
    let this : IsPrefix known.seen.log both = subst (λ (l : List (Stage g.row.E.Denot)). IsPrefix l both) (ap (λ s. s.log) c.again-both.ensures) c.learn.ensures.2 in
    heard_on c.args.heard.now.kept.log known c.args.mark both this c.learn.ensures.3 c.learn.ensures.4.1.chain c.requires.late c.requires.before
