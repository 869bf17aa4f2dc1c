use Rattle.std.proofs.Common.{subst}
use Rattle.acl_ports.specs.Crash.{IsTorn}
use Rattle.acl_ports.specs.MemoryDisk.{DiskState}
use Rattle.acl_ports.proofs.Undo.{content_is_image}
use Rattle.acl_ports.proofs.memory_disk.MemoryDisk.stopped.Goals as goal

pub returns-in-Written-clause-image : goal.returns-in-Written-clause-image
returns-in-Written-clause-image c =
    subst (λ (disk : DiskState). IsTorn disk.pending.dirty disk.pending.synced c.self.inside.bytes.items) c.self.view_is
    (content_is_image c.self.inside.log.log c.self.inside.replaced.items c.self.inside.bytes.items c.self.invariant.6)
