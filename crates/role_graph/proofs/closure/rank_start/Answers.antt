use Rattle.std.proofs.Common.{nat_lt, rules, arith}
use Rattle.std.proofs.lemmas.Bool.{ltb-true, ltb-false}
use Rattle.std.proofs.lemmas.List.Sorted.{IsPartitionPoint-from_clause, IsPartitionedBy-ltb}
use Rattle.role_graph.specs.Edges.{rank}
use Rattle.role_graph.specs.declared.link.Link.{Link}
use Rattle.role_graph.proofs.closure.rank_start.Goals as goal

pub returns-clause-before : goal.returns-clause-before
returns-clause-before c = λ k d below.
    let bound = c.args.bound in
    let point = IsPartitionPoint-from_clause (λ (link : Link). nat_lt (rank link) bound) c.args.links.now c.partition_point.result
    c.partition_point.ensures.partitioned (IsPartitionedBy-ltb rank c.args.links.now bound c.requires.ordered) (λ a r f' called. search rules) in
    ltb-true _ _ (point.0 k d (omega arith) below)

pub returns-clause-after : goal.returns-clause-after
returns-clause-after c = λ k d from below.
    let bound = c.args.bound in
    let point = IsPartitionPoint-from_clause (λ (link : Link). nat_lt (rank link) bound) c.args.links.now c.partition_point.result
    c.partition_point.ensures.partitioned (IsPartitionedBy-ltb rank c.args.links.now bound c.requires.ordered) (λ a r f' called. search rules) in
    ltb-false _ _ (point.1 k d from below)
