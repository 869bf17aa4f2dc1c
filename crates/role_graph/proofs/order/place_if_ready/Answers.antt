use Rattle.std.proofs.Common.{◌∙◌, sym, arith}
use Rattle.std.proofs.lemmas.Bool.{true≢false, and_left}
use Rattle.role_graph.specs.Edges.{linked}
use Rattle.role_graph.specs.Nodes.{holds}
use Rattle.role_graph.specs.Paths.{Granted}
use Rattle.role_graph.proofs.Orders.{room_for, order_grows, wave_looked, nothing_awaited, something_awaited}
use Rattle.role_graph.proofs.order.place_if_ready.Goals as goal
use Rattle.role_graph.proofs.order.place_if_ready.Goals.{else-contains-via-then-contains+then-not-contains+else-not-awaits_role, else-contains-via-then-contains+else-not-contains, else-contains-via-else-contains}

pub bounds-into-placed : goal.bounds-into-placed
bounds-into-placed c =
    room_for (λ role node. linked c.args.roles.now node role) (holds c.args.affected.now) (holds c.args.placed.now.nodes) c.args.into.now
    c.args.placed.now.count c.args.node c.requires.order c.requires.below (sym c.if-not-contains.ensures)

pub returns-then-not-awaits_role-clause-order : goal.returns-then-not-awaits_role-clause-order
returns-then-not-awaits_role-clause-order c =
    let affected = holds c.args.affected.now in
    let placed = holds c.args.placed.now.nodes in
    order_grows (λ role node. linked c.args.roles.now node role) affected placed (holds c.insert.new.self)
    c.args.into.now c.args.placed.now.count c.args.node c.requires.order (omega arith) c.requires.below
    (sym c.if-contains.ensures) (sym c.if-not-contains.ensures)
    (λ role edge aff. nothing_awaited affected placed c.links_of.result.now (sym c.if-not-awaits_role.ensures) role
    (c.links_of.ensures.same role ∙ edge) aff)
    c.insert.ensures

pub returns-else-contains-clause-wave : goal.returns-else-contains-clause-wave
returns-else-contains-clause-wave c = λ look wave.
    let granted : Granted = λ role node. linked c.args.roles.now node role in
    let affected = holds c.args.affected.now in
    let placed = holds c.args.placed.now.nodes in
    let waiting = holds c.args.placed.now.waiting in
    wave_looked granted affected placed waiting look c.args.node
    (λ among unplaced. elim c.else-contains.branch [
      | else-contains-via-then-contains+then-not-contains+else-not-awaits_role w ↦
          let found = something_awaited affected placed w.links_of.result.now (sym w.if-not-awaits_role.ensures) in
          (found.0, sym (w.links_of.ensures.same found.0) ∙ found.1, found.2, and_left (placed found.0) _ found.3)
      | else-contains-via-then-contains+else-not-contains w ↦ absurd (true≢false (w.if-not-contains.ensures ∙ unplaced))
      | else-contains-via-else-contains w ↦ absurd (true≢false (sym among ∙ sym w.if-contains.ensures))
    ])
    wave
