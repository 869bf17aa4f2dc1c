use Rattle.std.proofs.Common.{true, List, sym, ap, ◌∙◌, subst, length}
use Rattle.std.specs.Prelude.{slice_index_or}
use mathlib.Core.List.{IsPrefix}
use Rattle.published_copies.specs.declared.stage.Stage.{Stage}
use Rattle.published_copies.specs.declared.stage.Notice.{Notice}
use Rattle.published_copies.specs.Views.{AllBefore, read_of}
use Rattle.published_copies.proofs.Chains.{goes_self}
use Rattle.published_copies.proofs.Hearing.{all_more, whole_read}
use Rattle.published_copies.proofs.awaiting.read_last.Goals as goal

pub returns-clause-whole : goal.returns-clause-whole
returns-clause-whole g c =
    let e = c.in_ok-length.ensures.read in
    let told : Notice g.row.E.Denot = record { stage = c.args.front.stage; told = true } in
    let all = subst (λ (l : List (Notice g.row.E.Denot)). AllBefore l e.0) (ap (λ w. w.heard) c.learn.ensures) e.1 in
    e.3 ∙ ap (λ s. length s.entries) (whole_read told c.args.view.now.heard e.0 all c.requires.ended)

pub returns-clause-before : goal.returns-clause-before
returns-clause-before g c =
    let e = c.in_ok-length.ensures.read in
    let told : Notice g.row.E.Denot = record { stage = c.args.front.stage; told = true } in
    let heard = ap (λ w. w.heard) c.learn.ensures in
    let all = subst (λ (l : List (Notice g.row.E.Denot)). AllBefore l e.0) heard e.1 in
    let whole = whole_read told c.args.view.now.heard e.0 all c.requires.ended in
    let now = subst (λ (l : List (Notice g.row.E.Denot)). AllBefore l e.0) (sym e.2) (all_more (read_of e.0) c.learn.new.self.heard e.0 (goes_self e.0) e.1) in
    λ k d h. subst (λ (s : Stage g.row.E.Denot). IsPrefix (slice_index_or c.read_length.new.view.heard k d).stage.entries s.entries) whole (now k d h).0
