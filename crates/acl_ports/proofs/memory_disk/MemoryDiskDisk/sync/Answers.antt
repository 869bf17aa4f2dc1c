use Rattle.std.proofs.Common.{rules, inr, ◌<◌, ◌^◌, ap, arith}
use Rattle.acl_ports.proofs.Moments.{synced}
use Rattle.acl_ports.proofs.memory_disk.MemoryDiskDisk.sync.Goals as goal

pub returns-clause-after : goal.returns-clause-after
returns-clause-after c = search rules

pub returns-clause-fails : goal.returns-clause-fails
returns-clause-fails c = search rules

pub returns-clause-time : goal.returns-clause-time
returns-clause-time c =
    let small : c.args.self.now.most_calls < 2 ^ 64 = omega (arith, ap (λ d. d.most_calls) c.self.view_is, c.self.invariant) in
    let early : c.args.self.now.calls.made < 2 ^ 64 = omega (arith, ap (λ d. d.calls.made) c.self.view_is, c.self.invariant) in
    synced c.args.self.now _ _ small early (λ late. (returns-clause-fails c).1 (inr late)) (returns-clause-after c)
