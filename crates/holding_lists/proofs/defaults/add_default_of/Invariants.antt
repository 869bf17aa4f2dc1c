use Rattle.std.proofs.Common.{take}
use Rattle.holding_lists.specs.Additions.{Adds}
use Rattle.holding_lists.proofs.RolesSaid.{said_of_role}
use Rattle.holding_lists.proofs.defaults.add_default_of.Given as goal

abbrev pub invariant-loop-place : goal.invariant-loop-place
invariant-loop-place l = Adds l.fn.list.items l.list.items (said_of_role l.account (take l.place l.held.entries))
