use Rattle.std.proofs.Common.{◌≡◌, ℕ, List, Option, None, Some, IfSome, refl}
use Rattle.journal_disk.proofs.Steps.{untold_again}
use Rattle.acl_journal.proofs.Leaving.{IsOld, leaves_quiet, sync_leaves}
use Rattle.acl_journal.proofs.recovery.recover.Goals as goal

for_told : (content : Option (List ℕ)) (P : List ℕ → Type 0) → ((held : List ℕ) → content ≡ Some held → P held) → IfSome content P
for_told None P f = tt
for_told (Some held) P f = f held refl

pub returns-clause-untold : goal.returns-clause-untold
returns-clause-untold g c =
    untold_again (g.D.Disk.content c.args.disk.now) (g.D.Disk.content c.sync.new.self) (g.D.Disk.content c.read_journal.new.disk) c.sync.ensures.untold c.read_journal.ensures.quiet.untold

pub returns-clause-any_moment : goal.returns-clause-any_moment
returns-clause-any_moment g c = for_told (g.D.Disk.content c.args.disk.now) _ (λ held is.
    leaves_quiet g.D.Disk.content g.D.Disk.moment g.D.Disk.pending c.args.disk.now c.sync.new.self c.read_journal.new.disk (IsOld g.D.Disk.content g.D.Disk.moment g.D.Disk.pending c.args.disk.now held)
    (sync_leaves g.D.Disk.content g.D.Disk.moment g.D.Disk.pending c.args.disk.now c.sync.new.self held c.sync.result is c.sync.ensures.time) c.read_journal.ensures.quiet)
