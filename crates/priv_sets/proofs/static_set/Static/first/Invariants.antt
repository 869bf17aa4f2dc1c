use Rattle.std.proofs.Common.{◌≡◌, ℕ, ◌<◌, false}
use Rattle.priv_sets.specs.StaticSet.{holds}
use Rattle.priv_sets.proofs.static_set.Static.first.Given as goal

abbrev pub invariant-loop-number : goal.invariant-loop-number
invariant-loop-number l = (q : ℕ) → q < l.number → holds l.self q ≡ false
