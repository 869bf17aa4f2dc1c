use Rattle.acl_ports.proofs.WriteAndSync.{any_moment, durable}
use Rattle.acl_ports.proofs.laws.write_and_sync.Goals as goal

pub returns-clause-any_moment : goal.returns-clause-any_moment
returns-clause-any_moment g c =
    any_moment g.D.Disk.moment g.D.Disk.pending c.args.disk.now c.write_at.new.self c.sync.new.self c.args.at c.args.bytes.now (g.D.Disk.content c.args.disk.now) (g.D.Disk.content c.write_at.new.self) c.sync.result
    c.requires.place c.requires.settled c.in_ok-write_at.ensures.done c.in_ok-write_at.ensures.time c.sync.ensures.time

pub returns-clause-durable : goal.returns-clause-durable
returns-clause-durable g c =
    durable g.D.Disk.moment g.D.Disk.pending c.args.disk.now c.write_at.new.self c.sync.new.self c.args.at c.args.bytes.now (g.D.Disk.content c.args.disk.now) (g.D.Disk.content c.write_at.new.self) c.sync.result
    c.in_ok-write_at.ensures.done c.sync.ensures.time
