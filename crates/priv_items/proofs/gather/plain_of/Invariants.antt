use Rattle.std.proofs.Common.{◌≡◌, ℕ, drop, IsTrue}
use Rattle.std.specs.Prelude.{◌||◌}
use Rattle.priv_sets.specs.StaticSet.{holds, is_known}
use Rattle.priv_items.specs.Naming.{names_plain}
use Rattle.priv_items.proofs.gather.plain_of.Given as goal

abbrev pub invariant-loop-item : goal.invariant-loop-item
invariant-loop-item l =
    ((q : ℕ) → names_plain l.items q ≡ (names_plain (drop l.item-index l.items) q || holds l.set q)) × IsTrue (is_known l.set)
