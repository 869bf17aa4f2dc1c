use Rattle.std.proofs.Common.{◌≡◌, ◌+◌, ◌*◌, ◌/◌, ◌%◌, ◌<◌, length, arith}
use Rattle.role_graph.specs.Nodes.{holds}
use Rattle.role_graph.proofs.Bits.{set_bit}
use Rattle.role_graph.proofs.node_set.NodeSet.insert.Goals as goal

pub returns : goal.returns
unfolding holds
returns c = λ n.
    let node = c.args.node in
    let parts : node / 64 * 64 + node % 64 ≡ node = omega arith in
    let inside : node / 64 < length c.args.self.now.0 = omega arith in
    let below : node % 64 < 64 = omega arith in
    rw parts at (set_bit c.args.self.now.0 (node / 64) (node % 64) n inside below)
