use Rattle.std.proofs.Common.{◌∙◌, ap, sym}
use Rattle.role_graph.specs.declared.link.Link.{Link}
use Rattle.role_graph.specs.Edges.{Edges, with_admin}
use Rattle.role_graph.proofs.Counts.{admin_alone}
use Rattle.role_graph.proofs.graph.Graph.admin_of.Goals as goal

pub returns-in-Ok-clause-admin : goal.returns-in-Ok-clause-admin
returns-in-Ok-clause-admin c =
    ap (λ (link : Link). link.admin) c.index.ensures
    ∙ sym (admin_alone c.args.to c.args.role c.index.result.now c.self.inside.roles.items c.in-Ok.place
    (c.self.invariant.once c.args.to c.args.role)
    (rw c.deref.ensures.value at c.in-Ok.ensures.inside) (rw c.deref.ensures.value at (c.in-Ok.ensures.found c.index.result.now)))
    ∙ ap (λ (e : Edges). with_admin e c.args.role c.args.to) c.self.view_is
