use Rattle.std.proofs.Common.{length, ◌-◌, ◌≤◌, IfSome, drop}
use Rattle.acl_ports.specs.Disk.{IsReadAt}
use Rattle.journal_disk.specs.Read.{OnlyReads}
use Rattle.journal_disk.proofs.reading.fill.Given as goal

abbrev pub invariant-loop-done : goal.invariant-loop-done
invariant-loop-done g l = record {
  within : l.done ≤ length l.into;
  given : IfSome (g.D.Disk.content l.fn.disk) (λ held. IsReadAt held l.at l.into l.done);
  quiet : OnlyReads g.D.Disk.content g.D.Disk.moment g.D.Disk.pending l.fn.disk l.disk;
  faults : g.D.Disk.faults l.fn.disk ≤ g.D.Disk.faults l.disk;
}

abbrev pub decreases-loop-done : goal.decreases-loop-done
decreases-loop-done g l = length l.initial.into - l.done
