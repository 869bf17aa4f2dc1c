use Rattle.std.proofs.Common.{rules, ap, ◌∙◌}
use Rattle.book_turn.proofs.Keeps.{joins, recalls}
use Rattle.book_turn.proofs.Calls.{merges}
use Rattle.book_turn.proofs.turn.Turn.join.Goals as goal

pub join_seat-requires : goal.join_seat-requires
join_seat-requires g c = let b = g.B.Logged in
    (search rules, search rules, search rules, search rules, joins b.log b.origin b.caller_of _ _ _ _ c.requires.idle.1)

pub load-requires : goal.load-requires
load-requires g c = let b = g.B.Logged in
    (search rules, search rules, recalls b.log b.origin b.caller_of _ _ _ (ap (λ m. m.0.turn) c.join_seat.ensures.2 ∙ c.requires.idle.0))

pub returns : goal.returns
returns g c = let t = merges _ _ c.args.seat.now.me.0 c.args.other.me.0 c.args.seat.now.me.1 c.join_seat.ensures.2 c.load.ensures.2 in
    record { same = (search rules, search rules, t.1); merged = t.0 }
