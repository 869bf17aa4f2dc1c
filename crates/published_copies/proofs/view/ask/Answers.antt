use Rattle.std.proofs.Common.{ap, ◌∙◌}
use Rattle.published_copies.proofs.view.ask.Goals as goal

pub returns-in-Ok : goal.returns-in-Ok
returns-in-Ok g c = let e = c.in-Ok.ensures in let now = c.get-shown.ensures in record {
  shown = c.in-Ok.reading.part.value;
  sits = c.leave.ensures.1 ∙ e.0;
  tied = e.1;
  late = e.2;
  same = e.3;
  marked = c.again-mark.ensures ∙ (c.mark.ensures ∙ ap (λ s. (g.S.Absorb.state s).mark) now);
  returned = (_, c.f-answer.ensures, c.value.ensures ∙ ap g.S.PublishedCopy.shown now);
}
