use Rattle.journal_disk.proofs.Header.{header_done, header_long, header_mid}
use Rattle.std.proofs.Common.{refl}
use Rattle.journal_disk.proofs.WriteAndSync.{of_ok, when_ok}
use Rattle.journal_disk.proofs.writing.write_header.Goals as goal

pub returns-clause-done : goal.returns-clause-done
returns-clause-done g c = when_ok c.sync.result _ (λ value is start.
    of_ok c.sync.result value _ is
    (header_done start (g.D.Disk.content c.write_at.new.self) (g.D.Disk.content c.sync.new.self) _ _ c.sync.result
    (header_mid (g.D.Disk.content c.args.disk.now) (g.D.Disk.content c.write_at.new.self) c.requires c.in_ok-write_at.ensures.done c.write_at.ensures.untold (g.D.Disk.content c.write_at.new.self) refl)
    c.sync.ensures.kept c.sync.ensures.untold c.sync.ensures.time.step))

pub returns-clause-long : goal.returns-clause-long
returns-clause-long g c =
    header_long (g.D.Disk.content c.write_at.new.self) (g.D.Disk.content c.sync.new.self) c.sync.result
    (header_mid (g.D.Disk.content c.args.disk.now) (g.D.Disk.content c.write_at.new.self) c.requires c.in_ok-write_at.ensures.done c.write_at.ensures.untold (g.D.Disk.content c.write_at.new.self) refl)
    c.sync.ensures.kept c.sync.ensures.untold
