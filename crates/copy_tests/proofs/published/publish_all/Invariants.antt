use Rattle.std.proofs.Common.{◌≡◌, ◌≤◌, false}
use Rattle.copy_tests.proofs.published.publish_all.Given as goal

abbrev pub invariant-loop-weight : goal.invariant-loop-weight
invariant-loop-weight g l = (l.publisher.book ≡ l.initial.publisher.book) × (l.publisher.handed.ended ≡ false) × (l.done ≤ l.weight)
