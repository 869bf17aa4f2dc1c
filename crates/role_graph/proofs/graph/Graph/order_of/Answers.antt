use Rattle.std.proofs.Common.{◌∙◌, ap, sym, subst, List}
use Rattle.role_graph.specs.declared.link.Link.{Link}
use Rattle.role_graph.specs.Edges.{linked}
use Rattle.role_graph.specs.Paths.{IsFreeOfLoops}
use Rattle.role_graph.proofs.Graphs.{linked_mirrored}
use Rattle.role_graph.proofs.graph.Graph.order_of.Goals as goal

pub order-requires-clause-mirrored : goal.order-requires-clause-mirrored
order-requires-clause-mirrored c = λ from to.
    ap (λ (links : List Link). linked links to from) c.deref-2.ensures.value
    ∙ linked_mirrored c.self.inside.roles.items c.self.inside.holders.items c.self.invariant from to
    ∙ sym (ap (λ (links : List Link). linked links from to) c.deref.ensures.value)

pub order-requires-clause-free_of_loops : goal.order-requires-clause-free_of_loops
order-requires-clause-free_of_loops c =
    subst (λ (links : List Link). IsFreeOfLoops (λ role node. linked links node role)) (sym c.deref.ensures.value) c.self.invariant.free_of_loops
