use Rattle.acl_journal.proofs.Leaving.{either_leaves}
use Rattle.acl_journal.proofs.journal.Journal.settle.Goals as goal

pub returns-in_err-set_gate-clause-any_moment : goal.returns-in_err-set_gate-clause-any_moment
returns-in_err-set_gate-clause-any_moment g c = λ start entries entry over.
    either_leaves g.D.Disk.content g.D.Disk.moment g.D.Disk.pending start entries entry c.args.self.now.disk c.set_gate.new.disk (c.in_err-set_gate.ensures.any_moment start entries entry over.size over.holds)

pub returns-clause-any_moment : goal.returns-clause-any_moment
returns-clause-any_moment g c = λ start entries entry over.
    either_leaves g.D.Disk.content g.D.Disk.moment g.D.Disk.pending start entries entry c.args.self.now.disk c.set_gate.new.disk (c.in_ok-set_gate.ensures.any_moment start entries entry over.size over.holds)
