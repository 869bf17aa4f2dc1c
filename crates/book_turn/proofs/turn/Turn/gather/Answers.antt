use Rattle.std.proofs.Common.{rules, ap, ◌∙◌, ◌≡◌}
use Rattle.book_turn.specs.Callers.{turn_of}
use Rattle.book_turn.proofs.Gathers.{gathers_next, next_meets}
use Rattle.book_turn.proofs.turn.Turn.gather.Goals as goal

pub join-requires-clause-turn : goal.join-requires-clause-turn
join-requires-clause-turn g c = (
  c.loop-next.invariant.0,
  ap (λ x. x.table_id) c.into_place.ensures
      ∙ next_meets (λ s. turn_of s ≡ c.args.self.now.table.shared.table_id) _ _ c.pop-in-loop-next.new.self.items c.in-Some-pop.next _ c.requires.turn c.loop-next.invariant.1 c.in-Some-pop.ensures.items,
)

pub loop-next-preserved : goal.loop-next-preserved
loop-next-preserved g c = (
  search rules,
  gathers_next _ _ c.pop-in-loop-next.new.self.items c.in-Some-pop.next _ _ c.into_place.result.me.0 c.loop-next.invariant.1 c.in-Some-pop.ensures.items (ap (λ x. x.me.0) c.into_place.ensures) c.join.ensures.merged c.join.ensures.same.2,
)
