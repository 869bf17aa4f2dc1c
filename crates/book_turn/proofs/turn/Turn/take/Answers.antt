use Rattle.std.proofs.Common.{rules, sym, subst}
use Rattle.book_turn.specs.Steps.{IsReady}
use Rattle.book_turn.proofs.Turns.{takes_turn}
use Rattle.book_turn.proofs.turn.Turn.take.Goals as goal

pub compare_exchange-requires : goal.compare_exchange-requires
compare_exchange-requires g c = let b = g.B.Logged in
    (search rules, search rules, takes_turn b.log b.origin b.caller_of _ _ _ (subst (λ m. IsReady m.0) (sym c.loop.invariant.2) c.requires.ready.0))
