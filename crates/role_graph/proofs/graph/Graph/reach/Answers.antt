use Rattle.std.proofs.Common.{◌∙◌, ap, subst, ℕ, ◌↔◌, IsTrue, List}
use Rattle.role_graph.specs.declared.link.Link.{Link}
use Rattle.role_graph.specs.Edges.{Edges, linked}
use Rattle.role_graph.specs.Nodes.{holds}
use Rattle.role_graph.specs.Paths.{Reaches}
use Rattle.role_graph.proofs.graph.Graph.reach.Goals as goal

pub returns : goal.returns
returns c =
    let same = c.deref.ensures.value ∙ ap (λ (e : Edges). e.links) c.self.view_is in
    subst (λ (links : List Link). (other : ℕ) → IsTrue (holds c.closure.result other) ↔ Reaches (λ to from. linked links from to) c.args.node other)
    same c.closure.ensures
