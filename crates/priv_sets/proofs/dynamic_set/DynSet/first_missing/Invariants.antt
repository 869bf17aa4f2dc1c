use Rattle.std.proofs.Common.{◌≡◌, ℕ, ◌<◌, false}
use Rattle.priv_sets.specs.DynamicSet.{is_missing_dynamic}
use Rattle.priv_sets.proofs.dynamic_set.DynSet.first_missing.Given as goal

abbrev pub invariant-loop-number : goal.invariant-loop-number
invariant-loop-number l = (q : ℕ) → q < l.number → is_missing_dynamic l.wanted l.held q ≡ false
