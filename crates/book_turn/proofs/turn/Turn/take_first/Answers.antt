use Rattle.std.proofs.Common.{rules, ap}
use Rattle.book_turn.proofs.Turns.{takes_turn}
use Rattle.book_turn.proofs.Calls.{first_is_ready, first_takes}
use Rattle.book_turn.proofs.turn.Turn.take_first.Goals as goal

pub compare_exchange-requires : goal.compare_exchange-requires
compare_exchange-requires g c = let b = g.B.Logged in
    (search rules, search rules, takes_turn b.log b.origin b.caller_of _ _ _ (first_is_ready _ c.requires.first))

pub returns-clause-taken : goal.returns-clause-taken
returns-clause-taken g c = let b = g.B.Logged in
    first_takes b.log b.origin b.caller_of _ _ _ (ap (λ m. m.0.fresh) c.requires.first) c.compare_exchange.ensures.2
