use Rattle.std.proofs.Common.{◌≤◌, ap, sym, subst, arith, length, List}
use mathlib.Core.List.{IsPrefix}
use Rattle.published_copies.specs.declared.stage.Stage.{Stage}
use Rattle.published_copies.specs.Stages.{GoesOn, last_of}
use Rattle.published_copies.proofs.Chains.{chain_meet}
use Rattle.published_copies.proofs.history.Mark.later.Goals as goal

pub returns-then-self-other-clause-this : goal.returns-then-self-other-clause-this
returns-then-self-other-clause-this g c =
    let mine = c.args.self.now in
    let others = c.args.other.now in
    let both = c.learn.new.self.log in
    let this : IsPrefix mine.seen.log both = subst (λ (l : List (Stage g.row.E.Denot)). IsPrefix l both) (ap (λ s. s.log) c.again-both.ensures) c.learn.ensures.2 in
    let less : length mine.seen.log ≤ length others.seen.log = omega (arith, mine.counted, others.counted) in
    subst (λ (l : List (Stage g.row.E.Denot)). GoesOn (last_of mine.seen.log) (last_of l)) (sym (ap (λ m. m.seen.log) c.again.ensures))
    (chain_meet mine.seen.log others.seen.log both this c.learn.ensures.3 less c.learn.ensures.4.1.chain)

pub returns-clause-that : goal.returns-clause-that
returns-clause-that g c =
    let mine = c.args.self.now in
    let others = c.args.other.now in
    let both = c.learn.new.self.log in
    let this : IsPrefix mine.seen.log both = subst (λ (l : List (Stage g.row.E.Denot)). IsPrefix l both) (ap (λ s. s.log) c.again-both.ensures) c.learn.ensures.2 in
    let less : length others.seen.log ≤ length mine.seen.log = omega (arith, mine.counted, others.counted) in
    subst (λ (l : List (Stage g.row.E.Denot)). GoesOn (last_of others.seen.log) (last_of l)) (sym (ap (λ m. m.seen.log) c.again-else-self-other.ensures))
    (chain_meet others.seen.log mine.seen.log both c.learn.ensures.3 this less c.learn.ensures.4.1.chain)
