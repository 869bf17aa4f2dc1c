use Rattle.std.proofs.Common.{◌∙◌, ap, List}
use Rattle.role_graph.specs.declared.link.Link.{Link}
use Rattle.role_graph.specs.Edges.{Edges, linked}
use Rattle.role_graph.proofs.Graphs.{linked_mirrored}
use Rattle.role_graph.proofs.graph.Graph.holders_of.Goals as goal

pub returns-clause-granted : goal.returns-clause-granted
returns-clause-granted c = λ holder.
    c.links_of.ensures.same holder
    ∙ ap (λ (links : List Link). linked links c.args.node holder) c.deref.ensures.value
    ∙ linked_mirrored c.self.inside.roles.items c.self.inside.holders.items c.self.invariant holder c.args.node
    ∙ ap (λ (e : Edges). linked e.links holder c.args.node) c.self.view_is
