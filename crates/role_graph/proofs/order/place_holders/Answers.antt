use Rattle.std.proofs.Common.{subst, ◌&&◌, not, List, ◌<◌, ◌+◌, length, get_or, take, take_all, arith}
use Rattle.std.specs.List.{list_any}
use Rattle.role_graph.specs.declared.link.Link.{Link}
use Rattle.role_graph.specs.Edges.{leads_to, linked}
use Rattle.role_graph.specs.Nodes.{holds}
use Rattle.role_graph.specs.Orders.{IsWave}
use Rattle.std.proofs.lemmas.List.Folds.{list_any_more}
use Rattle.role_graph.proofs.Tables.{no_link}
use Rattle.role_graph.proofs.Orders.{wave_same, look_more}
use Rattle.role_graph.proofs.order.place_holders.Goals as goal

pub loop-link-preserved : goal.loop-link-preserved
loop-link-preserved c =
    let links = c.args.links.now in
    let index = c.loop-link.link-index in
    let inside : index < length links = omega arith in
    record {
      order = c.place_if_ready.ensures.order;
      wave = λ look first.
          wave_same (λ role node. linked c.args.roles.now node role) (holds c.args.affected.now)
          (holds c.place_if_ready.new.placed.nodes) (holds c.place_if_ready.new.placed.waiting)
          (λ n. (look n && not (list_any (leads_to n) (take index links))) && not (leads_to n (get_or links index no_link)))
          (λ n. look n && not (list_any (leads_to n) (take (index + 1) links)))
          (λ n. look_more (look n) (list_any (leads_to n) (take index links)) (leads_to n (get_or links index no_link))
          (list_any (leads_to n) (take (index + 1) links)) (list_any_more (leads_to n) links index no_link inside))
          (c.place_if_ready.ensures.wave (λ n. look n && not (list_any (leads_to n) (take index links))) (c.loop-link.invariant.wave look first));
      done = λ n is. c.place_if_ready.ensures.done n (c.loop-link.invariant.done n is);
    }

pub returns-clause-wave : goal.returns-clause-wave
returns-clause-wave c = λ look first.
    subst (λ (links : List Link). IsWave (λ role node. linked c.args.roles.now node role) (holds c.args.affected.now)
    (holds c.loop-link.placed.nodes) (holds c.loop-link.placed.waiting) (λ n. look n && not (list_any (leads_to n) links)))
    (take_all c.loop-link.link-index c.args.links.now c.loop-link-test.false)
    (c.loop-link.invariant.wave look first)
