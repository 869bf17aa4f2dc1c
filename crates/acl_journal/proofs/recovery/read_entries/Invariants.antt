use Rattle.std.proofs.Common.{◌-◌, ◌≤◌, length}
use Rattle.journal_disk.specs.Read.{OnlyReads}
use Rattle.acl_journal.proofs.Progress.{Progress}
use Rattle.acl_journal.proofs.recovery.read_entries.Given as goal

abbrev pub invariant-records : goal.invariant-records
invariant-records g l = record {
  progress : Progress (g.R.Replay.state l.fn.replay) l.gate l.entries (g.R.Replay.state l.replay) (g.D.Disk.content l.fn.disk);
  quiet : OnlyReads g.D.Disk.content g.D.Disk.moment g.D.Disk.pending l.fn.disk l.disk;
  faults : g.D.Disk.faults l.fn.disk ≤ g.D.Disk.faults l.disk;
}

abbrev pub decreases-records : goal.decreases-records
decreases-records g l = 65536 - length l.entries
