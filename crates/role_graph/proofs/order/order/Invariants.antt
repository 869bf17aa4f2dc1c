use Rattle.std.proofs.Common.{false}
use Rattle.role_graph.specs.Edges.{linked}
use Rattle.role_graph.specs.Nodes.{holds}
use Rattle.role_graph.specs.Orders.{IsOrder, IsWave, done, failing}
use Rattle.role_graph.proofs.order.order.Given as goal

abbrev pub invariant-loop-next : goal.invariant-loop-next
invariant-loop-next l = record {
  order : IsOrder (λ role node. linked l.roles node role) (holds l.affected) (holds l.placed.nodes) l.into l.placed.count;
  wave : IsWave (λ role node. linked l.roles node role) (holds l.affected) (holds l.placed.nodes) (holds l.placed.waiting) (λ _. false);
}

abbrev pub decreases-loop-next : goal.decreases-loop-next
decreases-loop-next l = failing (done (holds l.placed.nodes) (holds l.placed.waiting)) 4096
