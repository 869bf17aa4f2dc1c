use Rattle.std.proofs.Common.{◌-◌, ◌+◌, ◌≤◌, length}
use Rattle.acl_program.proofs.StreamLemmas.{IsReadTo}
use Rattle.acl_program.specs.declared.input.TheConstants.{MOST_BYTES}
use Rattle.acl_program.proofs.input.read_all.Given as goal

abbrev pub invariant-loop-chunk : goal.invariant-loop-chunk
invariant-loop-chunk g l = record {
  within : length l.bytes.items ≤ MOST_BYTES + 1;
  read : IsReadTo (g.S.Source.left l.initial.source) l.bytes.items (g.S.Source.left l.source);
  faults : g.S.Source.faults l.initial.source ≤ g.S.Source.faults l.source;
}

abbrev pub decreases-loop-chunk : goal.decreases-loop-chunk
decreases-loop-chunk g l = MOST_BYTES + 1 - length l.bytes.items
