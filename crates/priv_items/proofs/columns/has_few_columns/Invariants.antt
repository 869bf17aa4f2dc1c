use Rattle.std.proofs.Common.{◌≡◌, ◌+◌, ◌-◌, ◌^◌, drop}
use Rattle.priv_items.specs.Naming.{column_count}
use Rattle.priv_items.proofs.columns.has_few_columns.Given as goal

abbrev pub invariant-loop-item : goal.invariant-loop-item
invariant-loop-item l = column_count l.items + l.room ≡ (2 ^ 32 - 1) + column_count (drop l.item-index l.items)
