-- What a set of nodes holds.
use Rattle.std.specs.Prelude.{ℕ, Bool, ◌==◌, ◌/◌, ◌%◌, slice_index}
use Rattle.std.specs.Int.{bit_at}
use Rattle.role_graph.specs.declared.node_set.NodeSet.{NodeSet}

-- whether the set holds a node: 64 words of 64 bits, the lowest bit of the first word for node 0
unfoldable pub holds : NodeSet → ℕ → Bool
holds set node = bit_at (slice_index set.0 (node / 64)) (node % 64) == 1
