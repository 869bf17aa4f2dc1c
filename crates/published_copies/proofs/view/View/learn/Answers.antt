use Rattle.std.proofs.Common.{List, sym, subst}
use Rattle.std.specs.Prelude.{IsSomeAnd}
use Rattle.logbook.specs.Pages.{Book}
use Rattle.left_right.specs.Sides.{view}
use Rattle.published_copies.specs.declared.stage.Notice.{Notice}
use Rattle.published_copies.specs.Stages.{last_of}
use Rattle.published_copies.specs.Copies.{KnowsBook}
use Rattle.published_copies.specs.Views.{AllBefore}
use Rattle.published_copies.proofs.Hearing.{all_on, all_more}
use Rattle.published_copies.proofs.view.View.learn.Goals as goal

pub invariant_of-self : goal.invariant_of-self
invariant_of-self g c = let before = c.self.inside.heard.kept.log in let s = last_of c.later.result.seen.log in (
  subst (λ (b : Book). IsSomeAnd c.self.inside.reader (λ r. KnowsBook g.S.Absorb.state (view r.place) b)) (sym c.later.ensures.own) c.self.invariant.0,
  subst (λ (l : List (Notice g.row.E.Denot)). AllBefore l s) (sym c.told.ensures)
      (all_more _ before s c.later.ensures.that (all_on before (last_of c.self.inside.known.seen.log) s c.self.invariant.1 c.later.ensures.this)),
)
