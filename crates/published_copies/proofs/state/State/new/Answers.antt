use Rattle.std.proofs.Common.{List, drop, sym, ap, ◌∙◌, subst}
use Rattle.left_right.specs.Sides.{view}
use Rattle.published_copies.specs.declared.stage.Stage.{Stage}
use Rattle.published_copies.specs.declared.copies.Operation.{Operation}
use Rattle.published_copies.specs.Stages.{GoesOn, last_of}
use Rattle.published_copies.specs.History.{head_of}
use Rattle.published_copies.proofs.Chains.{goes_nothing, last_added}
use Rattle.published_copies.proofs.Pending.{standing_first}
use Rattle.published_copies.proofs.state.State.new.Goals as goal

pub add-requires-clause-on : goal.add-requires-clause-on
add-requires-clause-on g c = let s = g.S.PublishedCopy.stage c.args.first in
    subst (λ (l : List (Stage g.row.E.Denot)). GoesOn (last_of l) s) (sym c.first-head.ensures.none) (goes_nothing s)

pub invariant_of-result : goal.invariant_of-result
invariant_of-result g c =
    let s = g.S.PublishedCopy.stage c.args.first in
    let w = c.in-Ok.writer in
    let pending : List (Operation g.row.E.Denot) = drop w.behind w.log.items in
    let e = c.in-Ok.ensures in
    standing_first g.S.Absorb.state w.desk.shown.value c.over-first.result pending (view w.desk.place) c.first-head.result.0 c.in-Some.mark c.again.result s
    e.0 c.over-first.ensures c.again.ensures e.1 e.2 (c.first-head.ensures.own ∙ ap head_of (sym c.in-Some.ensures.own)) (ap last_of c.in-Some.ensures.added ∙ last_added c.first-head.result.1.seen.log s)
