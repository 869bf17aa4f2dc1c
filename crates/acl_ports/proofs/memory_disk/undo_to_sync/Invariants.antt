use Rattle.std.proofs.Common.{◌≡◌, length, reverse}
use Rattle.acl_ports.specs.DiskLog.{CanReturn, content_synced}
use Rattle.acl_ports.proofs.memory_disk.undo_to_sync.Given as goal

abbrev pub invariant-loop-call : goal.invariant-loop-call
invariant-loop-call l = record {
  can : CanReturn (reverse l.recorded.items) l.replaced.items l.bytes.items;
  same : content_synced (reverse l.recorded.items) l.replaced.items l.bytes.items ≡ content_synced (reverse l.fn.recorded.items) l.fn.replaced.items l.fn.bytes.items;
}

abbrev pub decreases-loop-call : goal.decreases-loop-call
decreases-loop-call l = length l.recorded.items
