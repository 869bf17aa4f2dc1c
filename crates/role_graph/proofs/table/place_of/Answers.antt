use Rattle.std.proofs.Common.{arith}
use Rattle.std.proofs.lemmas.Grind.{common_steps}
use Rattle.role_graph.proofs.Puts.{not_linked}
use Rattle.role_graph.proofs.table.place_of.Goals as goal

pub returns-in_default-clause-absent : goal.returns-in_default-clause-absent
returns-in_default-clause-absent c =
    not_linked c.args.links.now c.args.link.from c.args.link.to c.rank_start-place.result c.requires
    (λ k d early. omega (arith, c.rank_start-place.ensures.before k d early, c.rank.ensures))
    (λ k d late inside. omega (arith, c.rank_start-place.ensures.after k d late inside, c.rank.ensures))
    (λ d inside. grind (arith, common_steps))

pub returns-in_default-2-clause-absent : goal.returns-in_default-2-clause-absent
returns-in_default-2-clause-absent c =
    not_linked c.args.links.now c.args.link.from c.args.link.to c.rank_start-place.result c.requires
    (λ k d early. omega (arith, c.rank_start-place.ensures.before k d early, c.rank.ensures))
    (λ k d late inside. omega (arith, c.rank_start-place.ensures.after k d late inside, c.rank.ensures))
    (λ d inside. grind (arith, common_steps))

pub returns-in_default-3-clause-absent : goal.returns-in_default-3-clause-absent
returns-in_default-3-clause-absent c =
    not_linked c.args.links.now c.args.link.from c.args.link.to c.rank_start-place.result c.requires
    (λ k d early. omega (arith, c.rank_start-place.ensures.before k d early, c.rank.ensures))
    (λ k d late inside. omega (arith, c.rank_start-place.ensures.after k d late inside, c.rank.ensures))
    (λ d inside. grind (arith, common_steps))
