use Rattle.std.proofs.Common.{◌≡◌, length}
use Rattle.std.specs.List.{All}
use Rattle.script_run.specs.Seats.{IsFresh}
use Rattle.script_run.proofs.run.empty_seats.Given as goal

abbrev pub invariant-loop-seat : goal.invariant-loop-seat
invariant-loop-seat l = (length l.seats.items ≡ l._seat) × All IsFresh l.seats.items
