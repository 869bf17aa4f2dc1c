use Rattle.std.proofs.Common.{◌+◌}
use Rattle.acl_journal.proofs.Leaving.{long_if_stands}
use Rattle.acl_journal.proofs.journal.Journal.open.Goals as goal

pub returns-in-Ok-clause-place : goal.returns-in-Ok-clause-place
returns-in-Ok-clause-place g c =
    long_if_stands (g.R.Replay.state c.args.replay.now) c.recover.new.entries (g.D.Disk.content c.args.disk) (g.D.Disk.content c.recover.new.disk) _ (c.in-Ok.offset + 1)
    c.in-Ok.ensures.gate c.in-Ok.ensures.list c.in-Ok.ensures.synced c.recover.ensures.untold
