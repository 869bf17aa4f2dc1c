use Rattle.std.proofs.Common.{◌≡◌, drop}
use Rattle.priv_items.specs.LevelRefusals.{first_wrong}
use Rattle.priv_items.proofs.levels.first_wrong.Given as goal

abbrev pub invariant-loop-item : goal.invariant-loop-item
invariant-loop-item l = first_wrong l.target l.items ≡ first_wrong l.target (drop l.item-index l.items)
