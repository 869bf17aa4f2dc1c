use Rattle.std.proofs.Common.{◌≡◌, ◌∷◌, List, sym, ap, ◌∙◌, subst}
use Rattle.std.proofs.lemmas.Result.{MatchResult-at_ok}
use Rattle.std.specs.Fn.{FnOnceReturnsAt}
use Rattle.left_right.specs.Sides.{view}
use Rattle.published_copies.specs.declared.stage.Stage.{Stage}
use Rattle.published_copies.specs.declared.stage.Notice.{Notice}
use Rattle.published_copies.specs.declared.history.Mark.{Mark}
use Rattle.published_copies.specs.Stages.{last_of}
use Rattle.published_copies.specs.Copies.{KnowsBook}
use Rattle.published_copies.specs.Views.{AllBefore, Answered, KnowsStill, read_of}
use Rattle.published_copies.proofs.Hearing.{heard_read, inside_of, answered_stage, answered_late}
use Rattle.published_copies.proofs.view.View.read.Goals as goal

pub note_read-requires-clause-book : goal.note_read-requires-clause-book
note_read-requires-clause-book g c =
    let state = g.S.Absorb.state in
    let known = c.self.inside.known in
    let before = view c.in-Some.reader.place in
    let after = view c.ask-reader.result.0.place in
    let a = MatchResult-at_ok (λ r. Answered state (λ y t. FnOnceReturnsAt g.F.FnOnce c.args.f (g.S.PublishedCopy.shown y) t) known.turn before after r.0 r.1) (λ _. KnowsStill state before after) _ c.in-Ok.is c.ask-reader.ensures in
    let k = inside_of c.self.inside.reader c.take.result c.in-Some.reader (λ r. KnowsBook state (view r.place) known.seen.book) c.take.ensures.value c.in-Some.is c.self.invariant.0 in
    ap (λ m. m.seen.book) a.marked ∙ a.same known.seen.book k

pub note_read-requires-clause-late : goal.note_read-requires-clause-late
note_read-requires-clause-late g c =
    let state = g.S.Absorb.state in
    let known = c.self.inside.known in
    let before = view c.in-Some.reader.place in
    let after = view c.ask-reader.result.0.place in
    let a = MatchResult-at_ok (λ r. Answered state (λ y t. FnOnceReturnsAt g.F.FnOnce c.args.f (g.S.PublishedCopy.shown y) t) known.turn before after r.0 r.1) (λ _. KnowsStill state before after) _ c.in-Ok.is c.ask-reader.ensures in
    answered_late state _ known.turn before after c.in-Ok.answer c.in-Ok.mark a

pub invariant_of-self : goal.invariant_of-self
invariant_of-self g c =
    let state = g.S.Absorb.state in
    let known = c.self.inside.known in
    let mark = c.in-Ok.mark in
    let before = view c.in-Some.reader.place in
    let after = view c.ask-reader.result.0.place in
    let heard = c.self.inside.heard.kept.log in
    let note = c.note_read.ensures in
    let a = MatchResult-at_ok (λ r. Answered state (λ y t. FnOnceReturnsAt g.F.FnOnce c.args.f (g.S.PublishedCopy.shown y) t) known.turn before after r.0 r.1) (λ _. KnowsStill state before after) _ c.in-Ok.is c.ask-reader.ensures in (
      (a.shown, a.sits, sym (ap (λ m. m.seen.book) a.marked) ∙ sym (ap (λ m. m.seen.book) note.known)),
      subst (λ (l : List (Notice g.row.E.Denot)). AllBefore l (last_of c.note_read.new.known.seen.log)) (sym note.heard)
          (subst (λ (m : Mark g.row.E.Denot). AllBefore (read_of (last_of mark.seen.log) ∷ heard) (last_of m.seen.log)) (sym note.known) (heard_read heard mark note.on)),
    )

pub returns-in-Ok-clause-book : goal.returns-in-Ok-clause-book
returns-in-Ok-clause-book g c =
    let state = g.S.Absorb.state in
    let known = c.self.inside.known in
    let before = view c.in-Some.reader.place in
    let after = view c.ask-reader.result.0.place in
    let a = MatchResult-at_ok (λ r. Answered state (λ y t. FnOnceReturnsAt g.F.FnOnce c.args.f (g.S.PublishedCopy.shown y) t) known.turn before after r.0 r.1) (λ _. KnowsStill state before after) _ c.in-Ok.is c.ask-reader.ensures in
    let k = inside_of c.self.inside.reader c.take.result c.in-Some.reader (λ r. KnowsBook state (view r.place) known.seen.book) c.take.ensures.value c.in-Some.is c.self.invariant.0 in
    ap (λ m. m.seen.book) c.note_read.ensures.known ∙ (ap (λ m. m.seen.book) a.marked ∙ (a.same known.seen.book k ∙ ap (λ w. w.book) c.self.view_is))

pub returns-in-Ok-clause-read : goal.returns-in-Ok-clause-read
returns-in-Ok-clause-read g c =
    let state = g.S.Absorb.state in
    let known = c.self.inside.known in
    let before = view c.in-Some.reader.place in
    let after = view c.ask-reader.result.0.place in
    let heard = c.self.inside.heard.kept.log in
    let a = MatchResult-at_ok (λ r. Answered state (λ y t. FnOnceReturnsAt g.F.FnOnce c.args.f (g.S.PublishedCopy.shown y) t) known.turn before after r.0 r.1) (λ _. KnowsStill state before after) _ c.in-Ok.is c.ask-reader.ensures in
    let tied = answered_stage state _ known.turn before after c.in-Ok.answer c.in-Ok.mark a ∙ g.met.S.PublishedCopy.stands a.shown in
    let same : heard ≡ c.args.self.now.heard = ap (λ w. w.heard) c.self.view_is in (
      g.S.PublishedCopy.shown a.shown,
      a.returned,
      subst (λ (l : List (Notice g.row.E.Denot)). AllBefore l (g.S.PublishedCopy.stage (g.S.PublishedCopy.shown a.shown))) same
          (subst (λ (s : Stage g.row.E.Denot). AllBefore heard s) tied c.note_read.ensures.on),
      c.note_read.ensures.heard ∙ (λ i. read_of (tied i) ∷ same i),
    )
