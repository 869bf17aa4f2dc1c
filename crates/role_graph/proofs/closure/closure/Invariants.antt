use Rattle.role_graph.specs.Edges.{linked}
use Rattle.role_graph.specs.Nodes.{holds}
use Rattle.role_graph.specs.Orders.{failing, done}
use Rattle.role_graph.proofs.Search.{IsSearch}
use Rattle.role_graph.proofs.closure.closure.Given as goal

abbrev pub invariant-loop-next : goal.invariant-loop-next
invariant-loop-next l = IsSearch (λ to from. linked l.links from to) l.node (holds l.seen) (holds l.waiting)

abbrev pub decreases-loop-next : goal.decreases-loop-next
decreases-loop-next l = failing (done (holds l.seen) (holds l.waiting)) 4096
