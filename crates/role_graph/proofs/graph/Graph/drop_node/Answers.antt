use Rattle.std.proofs.Common.{◌∙◌, ap, ◌==◌, ◌&&◌, ◌||◌, not, min, length, ◌≤◌, arith}
use Rattle.std.specs.Vec.{vec_capacity}
use Rattle.std.proofs.lemmas.Bool.{and_parts}
use Rattle.role_graph.specs.Edges.{Edges, granted, with_admin, is_link, is_admin_link, touches}
use Rattle.role_graph.proofs.Graphs.{same_length, graph_without_node, linked_without_node, length_filter_le}
use Rattle.role_graph.proofs.graph.Graph.drop_node.Goals as goal

pub invariant_of-self : goal.invariant_of-self
invariant_of-self c =
    rw (c.remove_node.ensures.items, c.remove_node-2.ensures.items)
    (graph_without_node c.args.node c.self.inside.roles.items c.self.inside.holders.items c.self.invariant)

pub returns-clause-granted : goal.returns-clause-granted
returns-clause-granted c = λ r h.
    rw (c.remove_node.ensures.items)
    (linked_without_node c.args.node r h (is_link h r) (λ x is. is) c.self.inside.roles.items)
    ∙ ap (λ (e : Edges). granted e r h && not ((r == c.args.node) || (h == c.args.node))) c.self.view_is

pub returns-clause-admin : goal.returns-clause-admin
returns-clause-admin c = λ r h.
    rw (c.remove_node.ensures.items)
    (linked_without_node c.args.node r h (is_admin_link h r) (λ x is. (and_parts (is_link h r x) x.admin is).0) c.self.inside.roles.items)
    ∙ ap (λ (e : Edges). with_admin e r h && not ((r == c.args.node) || (h == c.args.node))) c.self.view_is

pub returns-clause-room : goal.returns-clause-room
returns-clause-room c =
    let roles = c.self.inside.roles in
    let holders = c.self.inside.holders in
    let most = min (vec_capacity roles) (vec_capacity holders) in
    let within : length roles.items ≤ most =
    omega (arith, roles.ok.0, roles.ok.1, holders.ok.0, holders.ok.1, same_length roles.items holders.items c.self.invariant) in
    let fewer : length c.remove_node.new.links.items ≤ length roles.items =
    rw (c.remove_node.ensures.items) (length_filter_le (λ link. not (touches c.args.node link)) roles.items) in
    rw (c.remove_node.ensures.capacity, c.remove_node-2.ensures.capacity)
    (omega (arith, within, fewer, ap (λ (e : Edges). e.room) c.self.view_is, ap (λ (e : Edges). length e.links) c.self.view_is))
