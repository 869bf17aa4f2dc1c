use Rattle.std.proofs.Common.{rules}
use Rattle.book_turn.proofs.Turns.{gives_at}
use Rattle.book_turn.proofs.Calls.{given}
use Rattle.book_turn.proofs.turn.Turn.give.Goals as goal

pub store-requires : goal.store-requires
store-requires g c = let b = g.B.Logged in
    (search rules, search rules, gives_at b.log b.origin b.caller_of _ _ _ c.args.seat.now.me.0 c.args.book c.args.self.now.sized.1 c.put_in.ensures.book c.requires.empty.1 c.requires.log c.requires.origin)

pub returns-clause-given : goal.returns-clause-given
returns-clause-given g c = given g.B.Logged.origin _ _ c.args.seat.now.me.0 c.args.book c.put_in.ensures.book c.store.ensures.2
