use Rattle.std.proofs.Common.{◌≡◌, false}
use Rattle.copy_tests.proofs.published.read_through.Given as goal

abbrev pub invariant-loop-weight : goal.invariant-loop-weight
invariant-loop-weight g l = (l.publisher.handed.ended ≡ false) × (l.view.book ≡ l.publisher.book)
