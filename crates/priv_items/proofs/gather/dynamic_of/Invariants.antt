use Rattle.std.proofs.Common.{◌≡◌, ℕ, drop}
use Rattle.std.specs.Prelude.{◌||◌}
use Rattle.priv_sets.specs.DynamicSet.{holds_dynamic}
use Rattle.priv_items.specs.Naming.{names_dynamic}
use Rattle.priv_items.proofs.gather.dynamic_of.Given as goal

abbrev pub invariant-loop-item : goal.invariant-loop-item
invariant-loop-item l = (q : ℕ) → names_dynamic l.items q ≡ (names_dynamic (drop l.item-index l.items) q || holds_dynamic l.set q)
