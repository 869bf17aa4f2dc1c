use Rattle.std.proofs.Common.{◌∷◌, [], ap, sym, subst, length, length-append, arith}
use Rattle.std.specs.List.{All}
use Rattle.script_run.specs.Seats.{IsFresh}
use Rattle.script_run.proofs.Running.{all_fresh}
use Rattle.script_run.proofs.run.empty_seats.Goals as goal

pub loop-seat-preserved : goal.loop-seat-preserved
loop-seat-preserved c = (
  omega (arith, ap length c.in_ok-push.ensures.items, length-append c.loop-seat.seats.items (c.new.result ∷ []), c.loop-seat.invariant.0),
  subst (All IsFresh) (sym c.in_ok-push.ensures.items)
      (all_fresh c.loop-seat.seats.items c.new.result c.loop-seat.invariant.1 (record { session = c.new.ensures.session; none = c.new.ensures.state; no_calls = c.new.ensures.calls })),
)
