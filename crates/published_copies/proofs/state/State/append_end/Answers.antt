use Rattle.std.proofs.Common.{◌≡◌, false, drop, ap, ◌∙◌}
use Rattle.left_right.specs.Sides.{view}
use Rattle.published_copies.specs.declared.stage.Stage.{Stage}
use Rattle.published_copies.specs.declared.copies.Operation.TheVariants.{Ended}
use Rattle.published_copies.specs.Stages.{GoesOn, last_of, with_end}
use Rattle.published_copies.specs.Views.{handed}
use Rattle.published_copies.proofs.Chains.{goes_end}
use Rattle.published_copies.proofs.Pending.{handed_becomes, handed_has, standing_on}
use Rattle.published_copies.proofs.state.State.append_end.Goals as goal

pub invariant_of-self : goal.invariant_of-self
invariant_of-self g c =
    let state = g.S.Absorb.state in
    let w = c.self.inside.writer in
    let w' = c.hand_over.new.writer in
    let mark = c.self.inside.mark in
    let was = drop w.behind w.log.items in
    let now = drop w'.behind w'.log.items in
    let shown = ap (λ d. d.shown.value) c.hand_over.ensures.desk in
    let open_yet : (handed state w.desk.shown.value was).ended ≡ false = ap (λ s. s.handed.ended) c.self.view_is ∙ c.requires in
    standing_on state w.desk.shown.value w'.desk.shown.value was now (view w.desk.place) (view w'.desk.place) c.self.inside.head mark c.self.invariant shown (ap (λ d. view d.place) c.hand_over.ensures.desk)
    (handed_has state (λ (s : Stage g.row.E.Denot). GoesOn (last_of mark.seen.log) s) c.hand_over.result w.desk.shown.value w'.desk.shown.value was now Ended shown c.hand_over.ensures.pending c.self.invariant.on
    (goes_end (last_of mark.seen.log) (handed state w.desk.shown.value was) open_yet c.self.invariant.on))

pub returns-clause-handed : goal.returns-clause-handed
returns-clause-handed g c =
    let state = g.S.Absorb.state in
    let w = c.self.inside.writer in
    let w' = c.hand_over.new.writer in
    let before = ap (λ s. s.handed) c.self.view_is in
    handed_becomes state c.hand_over.result w.desk.shown.value w'.desk.shown.value (drop w.behind w.log.items) (drop w'.behind w'.log.items) Ended
    c.args.self.now.handed (with_end c.args.self.now.handed) (ap (λ d. d.shown.value) c.hand_over.ensures.desk) before (ap with_end before) c.hand_over.ensures.pending
