use Rattle.std.proofs.Common.{ap, ◌∙◌, subst, ◌≡◌, ◌++◌, ◌∷◌, []}
use Rattle.book_turn.proofs.Calls.{idle_is_ready, takes_out, owed_log, ends, ends_just}
use Rattle.book_turn.proofs.turn.Turn.with.Goals as goal

pub take-requires-clause-ready : goal.take-requires-clause-ready
take-requires-clause-ready g c = let seat = c.args.seat.now in idle_is_ready seat.seat.me seat.caller seat.made seat.idle seat.owns

pub give_more-requires-clause-log : goal.give_more-requires-clause-log
give_more-requires-clause-log g c = let b = g.B.Logged in let seat = c.args.seat.now in let l = c.in-Ok.ensures.logged in
    let t = takes_out b.log b.origin b.caller_of seat.seat.me c.take.new.seat.me c.take_out-book.result c.take.ensures.taken seat.idle.3 c.take_out-book.ensures.book.0 in
    owed_log b.log b.origin b.caller_of seat.seat.me.0 seat.caller seat.made c.take_out-book.result _ _ l.0 _ t (ap (λ m. m.0) c.take_out-book.ensures.book.1) seat.owns l.1 l.2

pub invariant_of-seat : goal.invariant_of-seat
invariant_of-seat g c = let b = g.B.Logged in let seat = c.args.seat.now in let l = c.in-Ok.ensures.logged in
    let t = takes_out b.log b.origin b.caller_of seat.seat.me c.take.new.seat.me c.take_out-book.result c.take.ensures.taken seat.idle.3 c.take_out-book.ensures.book.0 in
    let e = ends b.log b.origin b.caller_of seat.seat.me.0 seat.caller seat.made c.take_out-book.result c.apply.new.self _ _ l.0 c.give_more.new.seat.me t (ap (λ m. m.0) c.take_out-book.ensures.book.1) seat.owns l.1 l.2 c.give_more.ensures.given in
    record { idle = e.idle; owns = e.owns; drawn = e.drawn ∙ seat.drawn; first = seat.first }

pub returns-in-Ok-clause-logged : goal.returns-in-Ok-clause-logged
returns-in-Ok-clause-logged g c = let b = g.B.Logged in let seat = c.args.seat.now in let l = c.in-Ok.ensures.logged in
    let t = takes_out b.log b.origin b.caller_of seat.seat.me c.take.new.seat.me c.take_out-book.result c.take.ensures.taken seat.idle.3 c.take_out-book.ensures.book.0 in
    let e = ends b.log b.origin b.caller_of seat.seat.me.0 seat.caller seat.made c.take_out-book.result c.apply.new.self _ _ l.0 c.give_more.new.seat.me t (ap (λ m. m.0) c.take_out-book.ensures.book.1) seat.owns l.1 l.2 c.give_more.ensures.given in
    record {
      between = t.longer.0;
      item = l.0;
      grown = e.seen ∙ ap (λ x. x ++ l.0 ∷ []) t.longer.1;
      caller = l.2;
      number = l.3;
      call = l.4;
      reply = λ o is. let come = t.come in let same : b.origin c.apply.new.self ≡ o = c.in-Ok.ensures.origin ∙ cc (come, is) in subst (λ x. b.stands x l.0 c.in-Ok.reply) same l.5;
      own = e.more;
      just = e.just;
    }

pub returns-in-Err-clause-just : goal.returns-in-Err-clause-just
returns-in-Err-clause-just g c = let b = g.B.Logged in let seat = c.args.seat.now in
    let t = takes_out b.log b.origin b.caller_of seat.seat.me c.take.new.seat.me c.take_out-book.result c.take.ensures.taken seat.idle.3 c.take_out-book.ensures.book.0 in
    ends_just b.log b.origin b.caller_of seat.seat.me.0 seat.caller seat.made c.take_out-book.result _ _ _ c.give.new.seat.me t (ap (λ m. m.0) c.take_out-book.ensures.book.1) seat.owns c.give.ensures.given
