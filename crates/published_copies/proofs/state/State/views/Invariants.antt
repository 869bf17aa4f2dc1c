use Rattle.std.proofs.Common.{◌≡◌, [], All}
use Rattle.std.specs.Prelude.{vec_len}
use Rattle.published_copies.proofs.state.State.views.Given as goal

abbrev pub invariant-loop : goal.invariant-loop
invariant-loop g l = (l.self ≡ l.initial.self) × (vec_len l.all ≡ l.counter) × All (λ v. v ≡ record { book = l.fn.self.book; heard = [] }) l.all.items
