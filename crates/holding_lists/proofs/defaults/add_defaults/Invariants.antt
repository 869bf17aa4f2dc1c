use Rattle.std.proofs.Common.{take}
use Rattle.holding_lists.specs.Additions.{Adds}
use Rattle.holding_lists.specs.Said.{default_says}
use Rattle.holding_lists.proofs.Entries.{said}
use Rattle.holding_lists.proofs.defaults.add_defaults.Given as goal

abbrev pub invariant-loop-place : goal.invariant-loop-place
invariant-loop-place l = Adds l.fn.list.items l.list.items (said default_says l.account (take l.place l.held.entries))
