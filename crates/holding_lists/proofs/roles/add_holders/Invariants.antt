use Rattle.std.proofs.Common.{take}
use Rattle.std.specs.List.{list_any}
use Rattle.role_graph.specs.Edges.{with_admin}
use Rattle.holding_lists.specs.Additions.{Adds}
use Rattle.holding_lists.specs.Said.{edge_says}
use Rattle.holding_lists.proofs.roles.add_holders.Given as goal

abbrev pub invariant-loop-link : goal.invariant-loop-link
invariant-loop-link l =
    Adds l.fn.list.items l.list.items (λ h. list_any (λ link. edge_says l.account link.to (with_admin l.holdings.roles l.account link.to) h) (take l.link-index l.link-items))
