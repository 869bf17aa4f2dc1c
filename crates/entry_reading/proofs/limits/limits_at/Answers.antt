use Rattle.std.proofs.Common.{◌+◌, List, [], subst, sym}
use Rattle.acl_stmt.specs.declared.limit.Limit.{Limit}
use Rattle.entry_bytes.specs.Faults.{ComesNext, LimitFields}
use Rattle.entry_reading.proofs.Faults.{handed_on}
use Rattle.entry_reading.proofs.OneByOne.{IsSoFar, NextFault, all_read, faulty_next, one_more}
use Rattle.entry_reading.specs.Faults.{IsFault}
use Rattle.entry_reading.proofs.limits.limits_at.Goals as goal

pub returns-in_err-limit-clause-err : goal.returns-in_err-limit-clause-err
returns-in_err-limit-clause-err c =
    handed_on (LimitFields c.args.count [] c.args.bytes.now) c.from_residual.result c.in_err-limit.field-0.0 c.from_residual.ensures.1
    (faulty_next c.args.count c.loop.counter c.args.bytes.now c.loop.limits c.loop.rest.now c.in_err-limit.field-0.0 c.loop-test.true c.loop.invariant
    (subst (λ (l : List Limit). IsFault (NextFault l c.loop.rest.now) c.in_err-limit.field-0.0) c.as_slice.ensures c.in_err-limit.ensures.err))

pub loop-preserved : goal.loop-preserved
loop-preserved c =
    let limit = c.in_ok-limit.limit in
    let next = subst (λ (l : List Limit). ComesNext l limit.privileges limit) c.as_slice.ensures c.in_ok-limit.ensures.next in
    let more = one_more c.args.count c.loop.counter c.args.bytes.now c.loop.limits c.loop.rest.now limit c.in_ok-limit.behind.now c.loop-test.true c.loop.invariant c.in_ok-limit.ensures.found next in
    subst (λ (l : List Limit). IsSoFar c.args.count (c.loop.counter + 1) c.args.bytes.now l c.in_ok-limit.behind.now) (sym c.in_ok-push.ensures.ok) more

pub returns-clause-behind : goal.returns-clause-behind
returns-clause-behind c = all_read c.args.count c.loop.counter c.args.bytes.now c.loop.limits c.loop.rest.now c.loop-test.false c.loop.invariant
