use Rattle.std.proofs.Common.{List, drop, ap, ◌∙◌}
use Rattle.left_right.specs.Sides.{view}
use Rattle.published_copies.specs.declared.copies.Operation.{Operation}
use Rattle.published_copies.specs.Stages.{last_of}
use Rattle.published_copies.proofs.Pending.{shown_handed, shown_standing, shown_published}
use Rattle.published_copies.proofs.state.State.publish.Goals as goal

pub invariant_of-result : goal.invariant_of-result
invariant_of-result g c =
    let w = c.set_mark.new.writer in
    let w' = c.show-writer.result.0 in
    let pending : List (Operation g.row.E.Denot) = drop w.behind w.log.items in
    let after : List (Operation g.row.E.Denot) = drop w'.behind w'.log.items in
    shown_standing g.S.Absorb.state c.show-writer.result.1 w.desk.shown.value w'.desk.shown.value pending after (view w.desk.place) (view w'.desk.place) c.self.inside.head c.set_mark.new.mark
    c.show-writer.ensures c.in-Ok.ensures.ready c.set_mark.ensures.standing

pub returns-in-Ok-clause-kept : goal.returns-in-Ok-clause-kept
returns-in-Ok-clause-kept g c =
    let w = c.set_mark.new.writer in
    let w' = c.show-writer.result.0 in
    let pending : List (Operation g.row.E.Denot) = drop w.behind w.log.items in
    let after : List (Operation g.row.E.Denot) = drop w'.behind w'.log.items in (
      c.set_mark.ensures.book ∙ ap (λ s. s.book) c.self.view_is,
      shown_handed g.S.Absorb.state c.show-writer.result.1 w.desk.shown.value w'.desk.shown.value pending after (view w.desk.place) (view w'.desk.place) c.show-writer.ensures
          ∙ (c.set_mark.ensures.handed ∙ ap (λ s. s.handed) c.self.view_is),
    )

pub returns-in-Ok-clause-published : goal.returns-in-Ok-clause-published
returns-in-Ok-clause-published g c =
    let state = g.S.Absorb.state in
    let w = c.set_mark.new.writer in
    let w' = c.show-writer.result.0 in
    let pending : List (Operation g.row.E.Denot) = drop w.behind w.log.items in
    let after : List (Operation g.row.E.Denot) = drop w'.behind w'.log.items in
    shown_published state c.show-writer.result.1 w.desk.shown.value w'.desk.shown.value pending after (view w.desk.place) (view w'.desk.place) c.args.self.published c.args.self.handed c.show-writer.ensures c.in-Ok.ensures.ready
    (ap (λ d. last_of (state d.shown.value).mark.seen.log) c.set_mark.ensures.desk ∙ ap (λ s. s.published) c.self.view_is) (c.set_mark.ensures.handed ∙ ap (λ s. s.handed) c.self.view_is)
