use Rattle.std.proofs.Common.{◌≡◌, ◌∙◌, ap, subst, ℕ, ◌↔◌, IsTrue, List}
use Rattle.role_graph.specs.declared.link.Link.{Link}
use Rattle.role_graph.specs.Edges.{Edges, granted, linked}
use Rattle.role_graph.specs.Nodes.{holds}
use Rattle.role_graph.specs.Paths.{Reaches, Granted}
use Rattle.role_graph.proofs.Graphs.{linked_mirrored}
use Rattle.role_graph.proofs.Loops.{turned}
use Rattle.role_graph.proofs.graph.Graph.reached_by.Goals as goal

pub returns : goal.returns
returns c = λ other.
    let node = c.args.node in
    let roles = c.self.inside.roles.items in
    let back : Granted = λ to from. linked roles to from in
    let mirrored : (λ to from. linked c.deref.result.now from to) ≡ back = λ i to from.
    (ap (λ (links : List Link). linked links from to) c.deref.ensures.value
    ∙ linked_mirrored roles c.self.inside.holders.items c.self.invariant to from) i in
    let same : back ≡ (λ holder role. granted c.args.self.now role holder) = λ i to from.
    ap (λ (e : Edges). linked e.links to from) c.self.view_is i in
    let found : (n : ℕ) → IsTrue (holds c.closure.result n) ↔ Reaches (λ holder role. granted c.args.self.now role holder) node n =
    subst (λ (g : Granted). (n : ℕ) → IsTrue (holds c.closure.result n) ↔ Reaches g node n) (mirrored ∙ same) c.closure.ensures in (
      λ is. turned (granted c.args.self.now) node other ((found other).0 is),
      λ path. (found other).1 (turned (λ holder role. granted c.args.self.now role holder) other node path),
    )
