use Rattle.std.proofs.Common.{◌∙◌, ap, ℕ, if◌then◌else◌, arith}
use Rattle.std.specs.List.{list_any}
use Rattle.role_graph.specs.Edges.{linked, leads_to}
use Rattle.role_graph.specs.Nodes.{holds}
use Rattle.role_graph.specs.Orders.{done}
use Rattle.role_graph.specs.Paths.{Granted}
use Rattle.role_graph.proofs.Bits.{in_words_small}
use Rattle.role_graph.proofs.Search.{failing_lt}
use Rattle.role_graph.proofs.Orders.{wave_looked_through, wave_popped, wave_goes_on, all_placed, done_taken, done_stays, not_done, same_answers}
use Rattle.role_graph.proofs.order.order.Goals as goal

pub loop-next-init : goal.loop-next-init
unfolding holds
loop-next-init c = record {
  order = c.place_ready-placed.ensures.order;
  wave = wave_looked_through (λ role node. linked c.args.roles.now node role) (holds c.args.affected.now)
      (holds c.place_ready-placed.result.nodes) (holds c.place_ready-placed.result.waiting)
      (λ n aff. in_words_small c.args.affected.now.0 n (omega arith) aff) c.place_ready-placed.ensures.wave;
}

pub loop-next-smaller : goal.loop-next-smaller
loop-next-smaller c =
    let next = c.in-Some.next in
    let placed = holds c.loop-next.placed.nodes in
    let waiting = holds c.loop-next.placed.waiting in
    let left = holds c.pop_first.new.self in
    failing_lt (done placed waiting) (done (holds c.place_holders.new.placed.nodes) (holds c.place_holders.new.placed.waiting))
    (λ n is. c.place_holders.ensures.done n (done_stays placed waiting left next c.in-Some.ensures.left n is))
    next (not_done placed waiting next c.in-Some.ensures.held)
    (c.place_holders.ensures.done next
    (done_taken placed waiting left next (c.loop-next.invariant.wave.waits next c.in-Some.ensures.held) c.in-Some.ensures.left))
    4096 c.in-Some.ensures.within

pub loop-next-preserved : goal.loop-next-preserved
loop-next-preserved c =
    let granted : Granted = λ role node. linked c.args.roles.now node role in
    let affected = holds c.args.affected.now in
    let next = c.in-Some.next in
    record {
      order = c.place_holders.ensures.order;
      wave = wave_goes_on granted affected (holds c.place_holders.new.placed.nodes) (holds c.place_holders.new.placed.waiting)
          (λ n. list_any (leads_to n) c.links_of.result.now) next
          (λ n. c.links_of.ensures.same n ∙ c.requires.mirrored n next)
          (c.place_holders.ensures.wave (λ n. granted next n)
          (wave_popped granted affected (holds c.loop-next.placed.nodes) (holds c.loop-next.placed.waiting) (holds c.pop_first.new.self) next
          c.in-Some.ensures.left c.loop-next.invariant.wave));
    }

pub returns-clause-once : goal.returns-clause-once
unfolding holds
returns-clause-once c = λ n.
    let granted : Granted = λ role node. linked c.args.roles.now node role in
    let affected = holds c.args.affected.now in
    let placed = holds c.loop-next.placed.nodes in
    c.loop-next.invariant.order.once n
    ∙ ap {B = ℕ} (λ b. if b then 1 else 0)
    (same_answers (placed n) (affected n) (c.loop-next.invariant.order.only_affected n)
    (all_placed granted affected placed (holds c.loop-next.placed.waiting) c.requires.free_of_loops c.loop-next.invariant.wave
    c.in_default.ensures.empty (λ m aff. in_words_small c.args.affected.now.0 m (omega arith) aff) n))
