use Rattle.std.proofs.Common.{sym, ◌∙◌}
use Rattle.published_copies.proofs.Rules.{sees}
use Rattle.published_copies.proofs.view.entered.Goals as goal

pub enter_as-requires : goal.enter_as-requires
enter_as-requires g c = sees g.S.Absorb.state _ _

pub returns-in-Ok-2 : goal.returns-in-Ok-2
returns-in-Ok-2 g c b k = let saw = c.in-Ok.ensures.1 in (c.in-Ok.reading.part.value, c.leave.ensures.1 ∙ saw.0, sym (saw.2 k.0 k.1) ∙ k.2)

pub returns-in-Err : goal.returns-in-Err
returns-in-Err g c b k = (k.0, c.in-Err.ensures.1 ∙ k.1, k.2)
