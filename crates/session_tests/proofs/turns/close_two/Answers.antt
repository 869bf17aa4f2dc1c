use Rattle.std.proofs.Common.{sym, subst}
use Rattle.book_turn.specs.Callers.{HasAllCallers}
use Rattle.book_turn.proofs.Orders.{two_in_order}
use Rattle.session_tests.proofs.turns.close_two.Goals as goal

pub close-requires-clause-all : goal.close-requires-clause-all
close-requires-clause-all g c = let r = c.requires.callers in
    subst HasAllCallers (sym c.in_ok-vec.ensures.items) (two_in_order c.args.first c.args.second r.0 r.1 r.2)
