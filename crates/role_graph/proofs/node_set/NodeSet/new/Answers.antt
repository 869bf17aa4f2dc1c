use Rattle.std.proofs.Common.{◌/◌, replicate}
use Rattle.role_graph.specs.Nodes.{holds}
use Rattle.role_graph.proofs.Bits.{zero_word, no_words}
use Rattle.role_graph.proofs.node_set.NodeSet.new.Goals as goal

pub returns : goal.returns
unfolding holds
returns c = λ n. zero_word (replicate 64 0) n (no_words 64 (n / 64))
