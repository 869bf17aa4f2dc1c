use Rattle.std.proofs.Common.{◌≡◌, ◌&&◌, not, false, take}
use Rattle.std.specs.List.{list_any}
use Rattle.role_graph.specs.Nodes.{holds}
use Rattle.role_graph.proofs.order.awaits_role.Given as goal

abbrev pub invariant-loop-link : goal.invariant-loop-link
invariant-loop-link l = list_any (λ link. holds l.affected link.to && not (holds l.placed link.to)) (take l.link-index l.links) ≡ false
