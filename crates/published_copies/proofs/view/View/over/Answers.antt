use Rattle.std.proofs.Common.{List, sym, ap, ◌∙◌, subst}
use Rattle.published_copies.specs.declared.stage.Notice.{Notice}
use Rattle.published_copies.specs.Stages.{last_of}
use Rattle.published_copies.specs.Views.{AllBefore}
use Rattle.published_copies.proofs.Hearing.{all_none}
use Rattle.published_copies.proofs.view.View.over.Goals as goal

pub invariant_of-result : goal.invariant_of-result
invariant_of-result g c = let k = c.requires in let s = last_of c.again.result.seen.log in (
  (k.0, k.1, k.2 ∙ sym (ap (λ m. m.seen.book) c.again.ensures)),
  subst (λ (l : List (Notice g.row.E.Denot)). AllBefore l s) (sym c.nothing.ensures) (all_none s),
)
