use Rattle.std.proofs.Common.{◌≢◌, ◌<◌, ◌+◌, length, get_or, arith}
use Rattle.mandatory_roles.proofs.Closings.{so_far_closes, so_far_doubled, so_far_open, so_far_plain}
use Rattle.mandatory_roles.proofs.cutting.closed_length.Goals as goal
use Rattle.mandatory_roles.proofs.cutting.closed_length.Goals.{else-length-inside-via-then-length-inside+else-inside-length-eq96, else-length-inside-via-else-length-inside}

pub loop-length-preserved-then-inside-length-ne96 : goal.loop-length-preserved-then-inside-length-ne96
loop-length-preserved-then-inside-length-ne96 c = record {
  within = omega arith;
  passed = so_far_plain c.args.inside.now _ c.loop-length-test.true c.if-inside-length-ne96.true c.loop-length.invariant.passed;
}

pub loop-length-preserved : goal.loop-length-preserved
loop-length-preserved c = record {
  within = omega arith;
  passed = so_far_doubled c.args.inside.now _ c.if-length-inside.true c.if-inside-length-ne96.false c.if-inside-length-eq96.true c.loop-length.invariant.passed;
}

pub returns-else-length-inside-clause-cut : goal.returns-else-length-inside-clause-cut
returns-else-length-inside-clause-cut c =
    let text = c.args.inside.now in
    let n = c.loop-length.length in
    let second : n + 1 < length text → get_or text (n + 1) 0 ≢ 96 =
    elim c.else-length-inside.branch [
      | else-length-inside-via-then-length-inside+else-inside-length-eq96 w ↦ λ lt. w.if-inside-length-eq96.false
      | else-length-inside-via-else-length-inside w ↦ λ lt. absurd (omega arith)
    ] in
    so_far_closes text n c.loop-length-test.true c.if-inside-length-ne96.false second c.loop-length.invariant.passed

pub returns-clause-cut : goal.returns-clause-cut
returns-clause-cut c = so_far_open c.args.inside.now _ c.loop-length-test.false c.loop-length.invariant.passed
