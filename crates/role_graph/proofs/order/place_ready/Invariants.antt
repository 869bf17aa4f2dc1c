use Rattle.std.proofs.Common.{nat_le}
use Rattle.role_graph.specs.Edges.{linked}
use Rattle.role_graph.specs.Nodes.{holds}
use Rattle.role_graph.specs.Orders.{IsOrder, IsWave}
use Rattle.role_graph.proofs.order.place_ready.Given as goal

abbrev pub invariant-loop-node : goal.invariant-loop-node
invariant-loop-node l = record {
  order : IsOrder (λ role node. linked l.roles node role) (holds l.affected) (holds l.placed.nodes) l.into l.placed.count;
  wave : IsWave (λ role node. linked l.roles node role) (holds l.affected) (holds l.placed.nodes) (holds l.placed.waiting) (λ n. nat_le l.node n);
}
