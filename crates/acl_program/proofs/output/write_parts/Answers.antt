use Rattle.std.proofs.Common.{[], rules}
use Rattle.acl_program.proofs.StreamLemmas.{parts_front, parts_whole}
use Rattle.acl_program.proofs.output.write_parts.Goals as goal

pub returns-in_err-write_all-clause-err : goal.returns-in_err-write_all-clause-err
returns-in_err-write_all-clause-err g c =
    parts_front _ _ _ c.args.parts.now c.loop-part.part-index (record { ref_ptr = (0, 0); now = [] }) _ _ c.loop-part-test.true c.as_bytes.ensures.value c.loop-part.invariant.written c.in_err-write_all.ensures.err

pub loop-part-preserved : goal.loop-part-preserved
loop-part-preserved g c = record {
  written = parts_whole _ _ _ c.args.parts.now c.loop-part.part-index (record { ref_ptr = (0, 0); now = [] }) _ c.loop-part-test.true c.as_bytes.ensures.value c.loop-part.invariant.written c.in_ok-write_all.ensures.ok;
  faults = search rules;
}
