use Rattle.std.proofs.Common.{◌∙◌, ap, ◌≤◌, ◌+◌, ◌*◌, arith}
use Rattle.std.specs.List.{list_any}
use Rattle.role_graph.specs.Edges.{leads_to, leads_with_admin}
use Rattle.role_graph.proofs.Tables.{starts_in_order, part_has_options, part_is_linked}
use Rattle.role_graph.proofs.closure.links_of.Goals as goal

pub part-requires-clause-in_order : goal.part-requires-clause-in_order
part-requires-clause-in_order c =
    starts_in_order c.args.links.now (c.args.node * 4096) (c.args.node * 4096 + 4096) c.rank_start-start.result c.rank_start-end.result
    (omega arith) c.rank_start-start.ensures.within c.rank_start-start.ensures.before c.rank_start-end.ensures.after

pub returns-clause-same : goal.returns-clause-same
returns-clause-same c = λ to.
    let in_order : c.rank_start-start.result ≤ c.rank_start-end.result =
    starts_in_order c.args.links.now (c.args.node * 4096) (c.args.node * 4096 + 4096) c.rank_start-start.result c.rank_start-end.result
    (omega arith) c.rank_start-start.ensures.within c.rank_start-start.ensures.before c.rank_start-end.ensures.after in
    ap (list_any (leads_to to)) c.part.ensures ∙ part_is_linked c.args.links.now c.args.node c.rank_start-start.result c.rank_start-end.result c.requires.table.within
    c.rank_start-start.ensures.before c.rank_start-start.ensures.after c.rank_start-end.ensures.before c.rank_start-end.ensures.after in_order to

pub returns-clause-admin : goal.returns-clause-admin
returns-clause-admin c = λ to.
    let in_order : c.rank_start-start.result ≤ c.rank_start-end.result =
    starts_in_order c.args.links.now (c.args.node * 4096) (c.args.node * 4096 + 4096) c.rank_start-start.result c.rank_start-end.result
    (omega arith) c.rank_start-start.ensures.within c.rank_start-start.ensures.before c.rank_start-end.ensures.after in
    ap (list_any (leads_with_admin to)) c.part.ensures ∙ part_has_options c.args.links.now c.args.node c.rank_start-start.result c.rank_start-end.result c.requires.table.within
    c.rank_start-start.ensures.before c.rank_start-start.ensures.after c.rank_start-end.ensures.before c.rank_start-end.ensures.after in_order to
