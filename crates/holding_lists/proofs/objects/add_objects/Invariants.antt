use Rattle.std.proofs.Common.{take}
use Rattle.holding_lists.specs.Additions.{Adds}
use Rattle.holding_lists.specs.Said.{object_says}
use Rattle.holding_lists.proofs.Entries.{said}
use Rattle.holding_lists.proofs.objects.add_objects.Given as goal

abbrev pub invariant-loop-place : goal.invariant-loop-place
invariant-loop-place l = Adds l.fn.list.items l.list.items (said object_says l.account (take l.place l.held.entries))
