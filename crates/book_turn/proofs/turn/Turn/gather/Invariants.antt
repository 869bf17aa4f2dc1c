use Rattle.std.proofs.Common.{◌≡◌}
use Rattle.book_turn.specs.Gathering.{GatheredPast}
use Rattle.book_turn.proofs.turn.Turn.gather.Given as goal

abbrev pub invariant-loop-next : goal.invariant-loop-next
invariant-loop-next g l = (l.all.table_id ≡ l.self.table.shared.table_id) × GatheredPast l.fn.seats.items l.seats.items l.all.me

abbrev pub decreases-loop-next : goal.decreases-loop-next
decreases-loop-next g l = goal.left-loop-next g l
