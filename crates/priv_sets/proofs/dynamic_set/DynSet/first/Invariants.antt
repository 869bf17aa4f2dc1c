use Rattle.std.proofs.Common.{◌≡◌, ℕ, ◌<◌, false}
use Rattle.priv_sets.specs.DynamicSet.{holds_dynamic}
use Rattle.priv_sets.proofs.dynamic_set.DynSet.first.Given as goal

abbrev pub invariant-loop-number : goal.invariant-loop-number
invariant-loop-number l = (q : ℕ) → q < l.number → holds_dynamic l.self q ≡ false
