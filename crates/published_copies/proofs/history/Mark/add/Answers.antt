use Rattle.std.proofs.Common.{sym, ◌∙◌, ap}
use Rattle.published_copies.proofs.Adding.{adds_moves}
use Rattle.published_copies.proofs.history.Mark.add.Goals as goal

pub compare_exchange-found-requires : goal.compare_exchange-found-requires
compare_exchange-found-requires g c =
    let h = c.requires.own in
    let seen = c.again-seen.ensures in
    let offer = c.plain-offer.ensures in
    let pen = c.no_pen-pen.ensures in
    let mark = c.args.self.now in (
      ap (λ w. w.tracked) h,
      ap (λ s. s.book) seen ∙ sym (ap (λ w. w.book) h),
      pen.0 ∙ (ap (λ s. s.book) seen ∙ sym (ap (λ w. w.book) h)),
      offer.0,
      rw (ap (λ w. w.key) h, pen.1, offer.1, ap (λ s. s.log) seen) (adds_moves mark.seen.log (g.M.Plain.ask c.args.about.now) mark.turn c.plain-offer.result.state (sym mark.counted) c.requires.on),
    )
