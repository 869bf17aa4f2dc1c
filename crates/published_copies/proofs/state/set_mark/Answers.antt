use Rattle.std.proofs.Common.{drop, sym, ap, ◌∙◌, subst}
use Rattle.std.specs.Prelude.{OnOk}
use Rattle.left_right.specs.Sides.{view}
use Rattle.published_copies.specs.Views.{handed, IsReady}
use Rattle.published_copies.proofs.Pending.{standing_moved, standing_marked}
use Rattle.published_copies.proofs.state.set_mark.Goals as goal

pub returns-clause-standing : goal.returns-clause-standing
returns-clause-standing g c =
    let w = c.args.writer.now in
    let w' = c.hand_over.new.writer in
    let now = drop w'.behind w'.log.items in
    let m = standing_marked g.S.Absorb.state c.hand_over.result w.desk.shown.value (drop w.behind w.log.items) now (view w.desk.place) c.args.head.now c.args.mark.now c.in-Some.next c.requires c.in-Some.ensures.own c.in-Some.ensures.added c.hand_over.ensures.pending in
    standing_moved g.S.Absorb.state w.desk.shown.value w'.desk.shown.value now (view w.desk.place) (view w'.desk.place) c.args.head.now c.in-Some.next c.again.result m.0
    (ap (λ d. d.shown.value) c.hand_over.ensures.desk) (ap (λ d. view d.place) c.hand_over.ensures.desk) c.again.ensures

pub returns-clause-book : goal.returns-clause-book
returns-clause-book g c = ap (λ m. m.seen.book) c.again.ensures ∙ c.in-Some.ensures.own

pub returns-clause-handed : goal.returns-clause-handed
returns-clause-handed g c =
    let w = c.args.writer.now in
    let w' = c.hand_over.new.writer in
    let now = drop w'.behind w'.log.items in
    let m = standing_marked g.S.Absorb.state c.hand_over.result w.desk.shown.value (drop w.behind w.log.items) now (view w.desk.place) c.args.head.now c.args.mark.now c.in-Some.next c.requires c.in-Some.ensures.own c.in-Some.ensures.added c.hand_over.ensures.pending in
    ap (λ d. handed g.S.Absorb.state d.shown.value now) c.hand_over.ensures.desk ∙ m.1

pub returns-clause-ready : goal.returns-clause-ready
returns-clause-ready g c =
    let w = c.args.writer.now in
    let w' = c.hand_over.new.writer in
    let now = drop w'.behind w'.log.items in
    let m = standing_marked g.S.Absorb.state c.hand_over.result w.desk.shown.value (drop w.behind w.log.items) now (view w.desk.place) c.args.head.now c.args.mark.now c.in-Some.next c.requires c.in-Some.ensures.own c.in-Some.ensures.added c.hand_over.ensures.pending in
    subst (λ (x : g.row.S.Denot). OnOk c.hand_over.result (IsReady g.S.Absorb.state x now)) (sym (ap (λ d. d.shown.value) c.hand_over.ensures.desk)) m.2
