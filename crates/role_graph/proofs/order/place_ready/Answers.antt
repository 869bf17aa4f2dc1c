use Rattle.std.proofs.Common.{◌+◌, ◌==◌, ◌&&◌, not, nat_le}
use Rattle.role_graph.specs.Edges.{linked}
use Rattle.role_graph.specs.Nodes.{holds}
use Rattle.role_graph.specs.Paths.{Granted}
use Rattle.role_graph.proofs.Orders.{order_begins, wave_begins, wave_same, look_on}
use Rattle.role_graph.proofs.order.place_ready.Goals as goal

pub loop-node-init : goal.loop-node-init
loop-node-init c =
    let granted : Granted = λ role node. linked c.args.roles.now node role in
    record {
      order = order_begins granted (holds c.args.affected.now) (holds c.new.result) c.args.into.now c.new.ensures;
      wave = wave_begins granted (holds c.args.affected.now) (holds c.new.result) (holds c.new-2.result) c.new-2.ensures;
    }

pub loop-node-preserved : goal.loop-node-preserved
loop-node-preserved c =
    let granted : Granted = λ role node. linked c.args.roles.now node role in
    let node = c.loop-node.node in
    record {
      order = c.place_if_ready.ensures.order;
      wave = wave_same granted (holds c.args.affected.now) (holds c.place_if_ready.new.placed.nodes) (holds c.place_if_ready.new.placed.waiting)
          (λ n. nat_le node n && not (node == n)) (λ n. nat_le (node + 1) n) (look_on node)
          (c.place_if_ready.ensures.wave (λ n. nat_le node n) c.loop-node.invariant.wave);
    }
