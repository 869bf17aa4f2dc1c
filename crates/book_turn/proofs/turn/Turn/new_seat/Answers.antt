use Rattle.std.proofs.Common.{rules, ap, ◌∙◌}
use Rattle.book_turn.specs.Sitting.{makes}
use Rattle.book_turn.proofs.Keeps.{numbers}
use Rattle.book_turn.proofs.Calls.{numbered_sits}
use Rattle.book_turn.proofs.turn.Turn.new_seat.Goals as goal

pub split_seat-seat-requires : goal.split_seat-seat-requires
split_seat-seat-requires g c = let b = g.B.Logged in let from = c.args.from.now in
    (search rules, search rules, numbers b.log b.origin b.caller_of _ _ from.callers (from.drawn ∙ ap (λ k. makes k from.callers) c.requires.maker))

pub invariant_of-result : goal.invariant_of-result
invariant_of-result g c = let from = c.args.from.now in let t = numbered_sits from.seat.me.0 _ from.callers c.split_seat-seat.ensures.4
    (from.drawn ∙ ap (λ k. makes k from.callers) c.requires.maker) from.idle.3 (from.first c.requires.maker) in
    record { idle = t.0; owns = t.1; drawn = t.2; first = t.3 }
