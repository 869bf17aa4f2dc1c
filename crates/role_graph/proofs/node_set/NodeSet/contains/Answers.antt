use Rattle.role_graph.specs.Nodes.{holds}
use Rattle.role_graph.proofs.Bits.{test_bit}
use Rattle.role_graph.proofs.node_set.NodeSet.contains.Goals as goal

pub returns : goal.returns
unfolding holds
returns c = test_bit c.args.self.now.0 c.args.node
