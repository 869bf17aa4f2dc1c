use Rattle.std.proofs.Common.{ap, subst}
use Rattle.role_graph.specs.Edges.{granted}
use Rattle.role_graph.specs.Paths.{Granted, IsFreeOfLoops}
use Rattle.role_graph.proofs.graph.Graph.has_no_loops.Goals as goal

pub returns : goal.returns
returns c = subst (λ (g : Granted). IsFreeOfLoops g) (ap granted c.self.view_is) c.self.invariant.free_of_loops
