use Rattle.std.proofs.Common.{◌∙◌, ap, sym, subst, ◌+◌, ◌==◌, ◌&&◌, ◌||◌, min, length, Bool, if◌then◌else◌, arith}
use Rattle.std.specs.Vec.{vec_capacity}
use Rattle.std.proofs.lemmas.Bool.{true≢false}
use Rattle.role_graph.specs.Edges.{Edges, granted}
use Rattle.role_graph.specs.Paths.{Granted, Reaches}
use Rattle.role_graph.proofs.Graphs.{same_length, added_linked, added_length, graph_added, room_added, same_edge}
use Rattle.role_graph.proofs.graph.Graph.add_edge.Goals as goal

pub put-requires-2-clause-room : goal.put-requires-2-clause-room
put-requires-2-clause-room c =
    let roles = c.self.inside.roles in
    let holders = c.self.inside.holders in
    omega (
      arith,
      c.requires.room,
      ap (λ (e : Edges). e.room) c.self.view_is,
      same_length roles.items holders.items c.self.invariant,
      holders.ok.0,
    )

pub invariant_of-self : goal.invariant_of-self
invariant_of-self c =
    let role = c.args.role in
    let to = c.args.to in
    graph_added c.self.inside.roles.items c.self.inside.holders.items c.put.new.links.items c.put-2.new.links.items role to c.self.invariant
    c.put.ensures.table c.put-2.ensures.table c.put.ensures.counts c.put-2.ensures.counts
    (λ path. true≢false
    (sym ((c.reach.ensures to).1 (subst (λ (g : Granted). Reaches g role to) (ap granted c.self.view_is) path)) ∙ sym c.if-contains.ensures))

pub returns-clause-granted : goal.returns-clause-granted
returns-clause-granted c = λ _ r h.
    let role = c.args.role in
    let to = c.args.to in
    added_linked c.self.inside.roles.items c.self.inside.holders.items c.put.new.links.items c.put-2.new.links.items role to c.self.invariant
    c.put.ensures.table c.put-2.ensures.table c.put.ensures.counts c.put-2.ensures.counts h r
    ∙ ap (λ (e : Edges). granted e r h || ((to == h) && (role == r))) c.self.view_is
    ∙ ap (λ (b : Bool). granted c.args.self.now r h || b) (same_edge role to r h)

pub returns-clause-room : goal.returns-clause-room
returns-clause-room c = λ _.
    let role = c.args.role in
    let to = c.args.to in
    let roles = c.self.inside.roles in
    let holders = c.self.inside.holders in
    rw (c.put.ensures.capacity, c.put-2.ensures.capacity)
    (room_added (min (vec_capacity roles) (vec_capacity holders)) (length roles.items) (length c.put.new.links.items) c.args.self.now.room
    (granted c.args.self.now role to)
    (ap (λ (e : Edges). e.room) c.self.view_is) c.requires.room
    (added_length roles.items holders.items c.put.new.links.items c.put-2.new.links.items role to c.self.invariant
    c.put.ensures.table c.put-2.ensures.table c.put.ensures.counts c.put-2.ensures.counts
    ∙ ap (λ (e : Edges). length roles.items + (if granted e role to then 0 else 1)) c.self.view_is))
