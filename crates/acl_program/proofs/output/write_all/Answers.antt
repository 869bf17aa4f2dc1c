use Rattle.std.proofs.Common.{arith, rules}
use Rattle.acl_program.proofs.StreamLemmas.{written_more}
use Rattle.acl_program.proofs.output.write_all.Goals as goal

pub loop-done-preserved : goal.loop-done-preserved
loop-done-preserved g c = record {
  within = omega (arith, c.in_ok-done.ensures.within);
  written = written_more _ _ _ _ _ _ c.loop-done.invariant.written c.in_ok-done.ensures.added;
  faults = search rules;
}
