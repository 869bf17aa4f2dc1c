use Rattle.std.proofs.Common.{◌∙◌, List, [], refl, subst, sym}
use Rattle.acl_stmt.specs.declared.limit.Limit.{Limit}
use Rattle.entry_bytes.specs.Faults.{EntryFields, LimitFields}
use Rattle.entry_bytes.specs.Spelling.{MayStand, bytes_of, statement_bytes}
use Rattle.entry_reading.proofs.Entries.{legal_entry, no_statement, nothing_left, some_left, spelled, too_many}
use Rattle.entry_reading.proofs.Faults.{deeper, handed_on}
use Rattle.entry_reading.proofs.Fronts.{behind_front}
use Rattle.entry_reading.specs.Faults.{IsAbsent, IsFault}
use Rattle.entry_reading.proofs.decoding.entry_in.Goals as goal

pub returns-in_err-limits-clause-err : goal.returns-in_err-limits-clause-err
returns-in_err-limits-clause-err c =
    let front = c.in_ok-front.front in
    let left = c.in_ok-front.behind_front.now in
    handed_on (EntryFields c.args.bytes.now) c.from_residual-in_err-limits.result c.in_err-limits.field-0.0 c.from_residual-in_err-limits.ensures.1
    (deeper (LimitFields front.count [] left) (EntryFields c.args.bytes.now) c.in_err-limits.field-0.0
    (behind_front front c.args.bytes.now left c.in_ok-front.ensures.found c.in_ok-front.ensures.within) c.in_err-limits.ensures.err)

pub returns-in_err-statement-clause-err : goal.returns-in_err-statement-clause-err
returns-in_err-statement-clause-err c =
    let front = c.in_ok-front.front in
    let left = c.in_ok-limits.behind_limits.now in
    let limits = c.in_ok-limits.limits in
    let absent = subst (λ (l : List Limit). IsFault (IsAbsent statement_bytes (MayStand l) left) c.in_err-statement.field-0.0) c.as_slice.ensures c.in_err-statement.ensures.err in
    handed_on (EntryFields c.args.bytes.now) c.from_residual-in_err-statement.result c.in_err-statement.field-0.0 c.from_residual-in_err-statement.ensures.1
    (deeper (IsAbsent statement_bytes (MayStand limits) left) (EntryFields c.args.bytes.now) c.in_err-statement.field-0.0
    (λ bad at. behind_front front c.args.bytes.now c.in_ok-front.behind_front.now c.in_ok-front.ensures.found c.in_ok-front.ensures.within bad (c.in_ok-limits.ensures.behind bad (no_statement limits left bad at)))
    absent)

pub returns-then-not-is_empty-clause-err : goal.returns-then-not-is_empty-clause-err
returns-then-not-is_empty-clause-err c =
    let left = c.in_ok-limits.behind_limits.now in
    let rest = c.in_ok-statement.rest.now in
    let limits = c.in_ok-limits.limits in
    let stands = subst (λ (l : List Limit). MayStand l c.in_ok-statement.statement) c.as_slice.ensures c.in_ok-statement.ensures.stands in
    let some = some_left rest (sym c.is_empty.ensures ∙ c.if-not-is_empty.true) in (
      rest,
      behind_front c.in_ok-front.front c.args.bytes.now c.in_ok-front.behind_front.now c.in_ok-front.ensures.found c.in_ok-front.ensures.within rest
          (c.in_ok-limits.ensures.behind rest (too_many limits left rest c.in_ok-statement.statement stands c.in_ok-statement.ensures.found some)),
      refl,
    )

pub invariant_of-result : goal.invariant_of-result
invariant_of-result c =
    let stands = subst (λ (l : List Limit). MayStand l c.in_ok-statement.statement) c.as_slice.ensures c.in_ok-statement.ensures.stands in
    record { legal = legal_entry c.in_ok-limits.limits c.in_ok-statement.statement c.in_ok-statement.ensures.kept stands c.in_ok-limits.ensures.order }

pub returns-clause-ok : goal.returns-clause-ok
unfolding bytes_of
returns-clause-ok c =
    spelled c.in_ok-front.front c.in_ok-limits.limits c.in_ok-statement.statement c.args.bytes.now c.in_ok-front.behind_front.now c.in_ok-limits.behind_limits.now c.in_ok-statement.rest.now
    c.in_ok-front.ensures.found c.in_ok-limits.ensures.many c.in_ok-limits.ensures.found c.in_ok-statement.ensures.found
    (nothing_left c.in_ok-statement.rest.now (sym c.is_empty.ensures ∙ c.if-not-is_empty.false))
