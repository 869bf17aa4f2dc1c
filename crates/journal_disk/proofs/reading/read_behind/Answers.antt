use Rattle.std.proofs.Common.{◌+◌, arith}
use Rattle.acl_ports.specs.Disk.{IsReadAt}
use Rattle.journal_disk.proofs.Pieces.{read_rest, under}
use Rattle.journal_disk.proofs.reading.read_behind.Goals as goal

pub returns-clause-given : goal.returns-clause-given
returns-clause-given g c =
    under (g.D.Disk.content c.args.disk.now) (λ held. IsReadAt held (c.args.at + c.args.done) c.read.new.into c.in_ok-count.count) _
    (λ held second first. read_rest held c.args.into.now c.read.new.into c.args.at c.args.done c.in_ok-count.count (omega (arith, c.requires.done)) c.in_ok-count.ensures.within first second)
    c.in_ok-count.ensures.given
