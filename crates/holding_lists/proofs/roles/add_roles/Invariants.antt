use Rattle.std.proofs.Common.{take}
use Rattle.std.specs.List.{list_any}
use Rattle.holding_lists.specs.Additions.{Adds}
use Rattle.holding_lists.specs.Said.{edge_says}
use Rattle.holding_lists.proofs.roles.add_roles.Given as goal

abbrev pub invariant-loop-link : goal.invariant-loop-link
invariant-loop-link l =
    Adds l.fn.list.items l.list.items (λ h. list_any (λ link. edge_says link.to l.account link.admin h) (take l.link-index l.link-items))
