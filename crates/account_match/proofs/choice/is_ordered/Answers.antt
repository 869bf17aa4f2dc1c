use Rattle.std.proofs.Common.{◌+◌, ◌≡◌, inl, inr, refl, arith}
use Rattle.std.proofs.lemmas.Bool.{cases_lt}
use Rattle.account_match.proofs.Chosen.{neighbours, not_ordered, ordered_by_neighbours}
use Rattle.account_match.proofs.choice.is_ordered.Goals as goal

pub loop-next-preserved : goal.loop-next-preserved
loop-next-preserved c = λ k d short.
    elim (cases_lt (k + 1) c.loop-next.next) [
      | inl before ↦ c.loop-next.invariant k d before
      | inr at ↦
          let here : k + 1 ≡ c.loop-next.next = omega arith in
          neighbours _ _ k _ _ d c.loop-next-test.true here c.index-accounts-next.is c.index-accounts-next-in-loop-next.is (c.precedes.ensures.0 c.if-not-precedes.false)
    ]

pub returns-then-not-precedes : goal.returns-then-not-precedes
returns-then-not-precedes c = (
  λ never. absurd (cc),
  λ ordered. absurd (not_ordered _ c.loop-next.next _ _ (omega arith) c.loop-next-test.true c.index-accounts-next.is c.index-accounts-next-in-loop-next.is
      (λ before. let is = c.precedes.ensures.1 before in let none = c.if-not-precedes.true in absurd (cc)) ordered),
)

pub returns : goal.returns
returns c = (λ whole. ordered_by_neighbours _ (λ k d short. c.loop-next.invariant k d (omega arith)), λ ordered. refl)
