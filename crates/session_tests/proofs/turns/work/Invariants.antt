use Rattle.std.proofs.Common.{◌≡◌, ◌≤◌}
use Rattle.book_turn.specs.Callers.{IsSameCaller}
use Rattle.session_tests.proofs.turns.work.Given as goal

abbrev pub invariant-loop-call : goal.invariant-loop-call
invariant-loop-call g l = IsSameCaller l.initial.worker.seat l.worker.seat × (l.worker.seat.callers ≡ l.initial.worker.seat.callers) × (l.worker.seat.made ≤ l.call)
