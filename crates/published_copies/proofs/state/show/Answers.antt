use Rattle.std.proofs.Common.{◌≡◌, List, [], drop, fold, refl, sym, ap, ◌∙◌}
use Rattle.std.proofs.lemmas.Result.{MatchResult-at_ok}
use Rattle.left_right.specs.Sides.{view}
use Rattle.published_copies.specs.declared.copies.Operation.{Operation}
use Rattle.published_copies.specs.Stages.{last_of}
use Rattle.published_copies.specs.Contents.{applied}
use Rattle.published_copies.specs.Copies.{Saw}
use Rattle.published_copies.proofs.Rules.{shows}
use Rattle.published_copies.proofs.Pending.{fold_same}
use Rattle.published_copies.proofs.state.show.Goals as goal

pub publish_as-writer-requires : goal.publish_as-writer-requires
publish_as-writer-requires g c next is =
    let w = c.args.writer in
    let all = is ∙ fold_same g.S.Absorb.applied applied (g.S.Absorb.state w.desk.shown.value) (drop w.behind w.log.items) g.met.S.PublishedCopy.applies in
    shows g.S.Absorb.state _ _ w.desk.shown.value next (ap (λ k. last_of k.mark.seen.log) all ∙ (c.requires.0 ∙ sym (ap (λ k. k.stage) all))) (ap (λ k. k.mark.seen.book) all ∙ c.requires.1)

pub returns-in-Ok : goal.returns-in-Ok
returns-in-Ok g c =
    let state = g.S.Absorb.state in
    let w = c.args.writer in
    let w' = c.publish_as-writer.result.0 in
    let pending : List (Operation g.row.E.Denot) = drop w.behind w.log.items in
    let after : List (Operation g.row.E.Denot) = drop w'.behind w'.log.items in
    let e = c.publish_as-writer.ensures in
    let v = MatchResult-at_ok (λ _. (state w'.desk.shown.value ≡ fold g.S.Absorb.applied (state w.desk.shown.value) pending) × (after ≡ []))
    (λ _. (w'.desk.shown.value ≡ w.desk.shown.value) × (after ≡ pending)) _ c.in-Ok.is e.values in
    let r = MatchResult-at_ok (λ _. Saw state (view w.desk.place) w'.desk.shown.value (view w'.desk.place)) (λ _. view w'.desk.place ≡ view w.desk.place) _ c.in-Ok.is e.rule in
    (v.0 ∙ fold_same g.S.Absorb.applied applied (state w.desk.shown.value) pending g.met.S.PublishedCopy.applies, v.1, (w'.desk.shown.value, r.0, refl))
