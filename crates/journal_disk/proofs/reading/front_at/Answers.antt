use Rattle.journal_disk.proofs.Pieces.{front_found}
use Rattle.journal_disk.proofs.reading.front_at.Goals as goal

pub returns-clause-front : goal.returns-clause-front
returns-clause-front g c =
    front_found (g.D.Disk.content c.args.disk.now) c.fill.new.into c.args.at c.in_ok-count.count c.front_of.result c.in_ok-count.ensures.given c.in_ok-count.ensures.whole c.front_of.ensures
