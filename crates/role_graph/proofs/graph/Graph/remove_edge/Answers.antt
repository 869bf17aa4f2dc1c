use Rattle.std.proofs.Common.{◌≡◌, ◌∙◌, ap, sym, ◌+◌, ◌==◌, ◌&&◌, not, min, nat_lt, length, count_by, ◌≤◌, List, arith}
use Rattle.std.specs.Vec.{vec_capacity}
use Rattle.std.proofs.lemmas.Bool.{and_parts}
use Rattle.role_graph.specs.declared.link.Link.{Link}
use Rattle.role_graph.specs.Edges.{Edges, granted, with_admin, is_link, is_admin_link}
use Rattle.role_graph.proofs.Counts.{any_counted}
use Rattle.role_graph.proofs.Graphs.{same_length, graph_without_edge, linked_without_edge, length_without_edge, shorter, room_without}
use Rattle.role_graph.proofs.graph.Graph.remove_edge.Goals as goal

pub invariant_of-self : goal.invariant_of-self
invariant_of-self c =
    rw (c.remove_link.ensures.items, c.remove_link-2.ensures.items)
    (graph_without_edge c.args.role c.args.to c.self.inside.roles.items c.self.inside.holders.items c.self.invariant)

-- fewer links are left where there was one
fewer_links : (c : goal.After-len) → nat_lt c.len.result c.len-before.result ≡ nat_lt 0 (count_by (is_link c.args.to c.args.role) c.self.inside.roles.items)
fewer_links c =
    let roles = c.self.inside.roles in
    let left = length c.remove_link.new.links.items in
    let count = count_by (is_link c.args.to c.args.role) roles.items in
    let len_is : c.len.result ≡ left = c.len.ensures ∙ c.remove_link.new.links.ok.0 in
    let before_is : c.len-before.result ≡ left + count =
    c.len-before.ensures ∙ roles.ok.0
    ∙ sym (ap (λ (links : List Link). length links + count) c.remove_link.ensures.items ∙ length_without_edge c.args.role c.args.to roles.items) in
    ap (λ n. nat_lt n c.len-before.result) len_is ∙ ap (nat_lt left) before_is ∙ shorter left count

pub returns-clause-stood : goal.returns-clause-stood
returns-clause-stood c =
    fewer_links c ∙ sym (any_counted (is_link c.args.to c.args.role) c.self.inside.roles.items)
    ∙ ap (λ (e : Edges). granted e c.args.role c.args.to) c.self.view_is

pub returns-clause-granted : goal.returns-clause-granted
returns-clause-granted c = λ r h.
    rw (c.remove_link.ensures.items)
    (linked_without_edge c.args.role c.args.to r h (is_link h r) (λ x is. is) c.self.inside.roles.items)
    ∙ ap (λ (e : Edges). granted e r h && not ((r == c.args.role) && (h == c.args.to))) c.self.view_is

pub returns-clause-admin : goal.returns-clause-admin
returns-clause-admin c = λ r h.
    rw (c.remove_link.ensures.items)
    (linked_without_edge c.args.role c.args.to r h (is_admin_link h r) (λ x is. (and_parts (is_link h r x) x.admin is).0) c.self.inside.roles.items)
    ∙ ap (λ (e : Edges). with_admin e r h && not ((r == c.args.role) && (h == c.args.to))) c.self.view_is

pub returns-clause-room : goal.returns-clause-room
returns-clause-room c =
    let roles = c.self.inside.roles in
    let holders = c.self.inside.holders in
    let count = count_by (is_link c.args.to c.args.role) roles.items in
    let within : length roles.items ≤ min (vec_capacity roles) (vec_capacity holders) =
    omega (arith, roles.ok.0, roles.ok.1, holders.ok.0, holders.ok.1, same_length roles.items holders.items c.self.invariant) in
    rw (c.remove_link.ensures.capacity, c.remove_link-2.ensures.capacity)
    (room_without (min (vec_capacity roles) (vec_capacity holders)) (length roles.items) (length c.remove_link.new.links.items) count
    c.args.self.now.room (nat_lt c.len.result c.len-before.result) within
    (ap (λ (links : List Link). length links + count) c.remove_link.ensures.items ∙ length_without_edge c.args.role c.args.to roles.items)
    (c.self.invariant.once c.args.to c.args.role) (fewer_links c) (ap (λ (e : Edges). e.room) c.self.view_is))
