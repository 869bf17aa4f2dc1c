use Rattle.std.proofs.Common.{nat_lt, rules, arith}
use Rattle.std.proofs.lemmas.Bool.{ltb-true, ltb-false}
use Rattle.std.proofs.lemmas.List.Sorted.{IsPartitionPoint-from_clause, IsPartitionedBy-ltb}
use Rattle.held_bits.specs.Records.{rank}
use Rattle.held_bits.specs.declared.record.Record.{Record}
use Rattle.held_bits.proofs.Tables.{nondecreasing}
use Rattle.held_bits.proofs.table.rank_start.Goals as goal

pub returns-clause-before : goal.returns-clause-before
returns-clause-before c = λ k d below.
    let bound = c.args.bound in
    let rs = c.args.records.now in
    let point = IsPartitionPoint-from_clause (λ (r : Record). nat_lt (rank r) bound) rs c.partition_point.result
    c.partition_point.ensures.partitioned (IsPartitionedBy-ltb rank rs bound (nondecreasing rs c.requires.ascending)) (λ a r f' called. search rules) in
    ltb-true _ _ (point.0 k d (omega arith) below)

pub returns-clause-after : goal.returns-clause-after
returns-clause-after c = λ k d from below.
    let bound = c.args.bound in
    let rs = c.args.records.now in
    let point = IsPartitionPoint-from_clause (λ (r : Record). nat_lt (rank r) bound) rs c.partition_point.result
    c.partition_point.ensures.partitioned (IsPartitionedBy-ltb rank rs bound (nondecreasing rs c.requires.ascending)) (λ a r f' called. search rules) in
    ltb-false _ _ (point.1 k d from below)
