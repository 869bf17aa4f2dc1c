use Rattle.std.proofs.Common.{◌+◌, length}
use Rattle.journal_bytes.specs.Files.{StandsEitherWay, StandsFor}
use Rattle.acl_ports.specs.Disk.{HasChangedWithin}
use Rattle.journal_disk.proofs.Steps.{synced_longer, synced_told, told_again, tore_longer, tore_told, wrote_longer, wrote_told}
use Rattle.journal_disk.proofs.WriteAndSync.{both_done, done_keeps, done_leaves, failed_keeps, failed_leaves, of_ok, when_ok}
use Rattle.journal_disk.proofs.Written.{behind_keeps, either_of, record_written}
use Rattle.journal_disk.specs.Held.{HoldsEither, HoldsList}
use Rattle.journal_disk.proofs.writing.write_behind.Goals as goal

pub returns-in_err-write_at-clause-kept : goal.returns-in_err-write_at-clause-kept
returns-in_err-write_at-clause-kept g c = λ start entries size holds.
    failed_keeps g.D.Disk.content g.D.Disk.moment g.D.Disk.pending (c.args.gate + 1) c.args.bytes.now (HoldsList start entries) (λ image. StandsFor start image entries) (behind_keeps start entries (c.args.gate + 1) c.args.bytes.now size)
    c.args.disk.now c.write_at.new.self c.in_err-write_at.ensures.torn c.write_at.ensures.untold c.in_err-write_at.ensures.time holds

pub returns-in_err-write_at-clause-any_moment : goal.returns-in_err-write_at-clause-any_moment
returns-in_err-write_at-clause-any_moment g c = λ start entries size holds.
    failed_leaves g.D.Disk.content g.D.Disk.moment g.D.Disk.pending (c.args.gate + 1) c.args.bytes.now (HoldsList start entries) (λ image. StandsFor start image entries) (behind_keeps start entries (c.args.gate + 1) c.args.bytes.now size)
    c.args.disk.now c.write_at.new.self c.in_err-write_at.ensures.torn c.write_at.ensures.untold c.in_err-write_at.ensures.time holds

pub returns-in_err-write_at-clause-long : goal.returns-in_err-write_at-clause-long
returns-in_err-write_at-clause-long g c =
    tore_longer (c.args.gate + 1) (length c.args.bytes.now) (g.D.Disk.content c.args.disk.now) (g.D.Disk.content c.write_at.new.self) c.in_err-write_at.ensures.torn c.write_at.ensures.untold

pub returns-clause-kept : goal.returns-clause-kept
returns-clause-kept g c = λ start entries size holds.
    done_keeps g.D.Disk.content g.D.Disk.moment g.D.Disk.pending (c.args.gate + 1) c.args.bytes.now (HoldsList start entries) (λ image. StandsFor start image entries) (behind_keeps start entries (c.args.gate + 1) c.args.bytes.now size)
    c.args.disk.now c.write_at.new.self c.sync.new.self c.sync.result c.in_ok-write_at.ensures.done c.write_at.ensures.untold c.in_ok-write_at.ensures.time c.sync.ensures.kept c.sync.ensures.torn c.sync.ensures.untold c.sync.ensures.time holds

pub returns-clause-any_moment : goal.returns-clause-any_moment
returns-clause-any_moment g c = λ start entries size holds.
    done_leaves g.D.Disk.content g.D.Disk.moment g.D.Disk.pending (c.args.gate + 1) c.args.bytes.now (HoldsList start entries) (λ image. StandsFor start image entries) (behind_keeps start entries (c.args.gate + 1) c.args.bytes.now size)
    c.args.disk.now c.write_at.new.self c.sync.new.self c.sync.result c.in_ok-write_at.ensures.done c.write_at.ensures.untold c.in_ok-write_at.ensures.time c.sync.ensures.kept c.sync.ensures.torn c.sync.ensures.untold c.sync.ensures.time holds

pub returns-clause-written : goal.returns-clause-written
returns-clause-written g c = when_ok c.sync.result _ (λ value is start entries entry size holds follows same.
    of_ok c.sync.result value _ is
    (both_done g.D.Disk.content g.D.Disk.moment g.D.Disk.pending (c.args.gate + 1) c.args.bytes.now (HoldsList start entries) (λ image. StandsFor start image entries) (behind_keeps start entries (c.args.gate + 1) c.args.bytes.now size)
    (λ held known. StandsEitherWay start held entries entry) (HoldsEither start entries entry)
    c.args.disk.now c.write_at.new.self c.sync.new.self c.sync.result
    (λ held known list. record_written start entries entry (c.args.gate + 1) c.args.bytes.now held size follows same list.read)
    (λ held known either. either_of start entries entry held either)
    c.in_ok-write_at.ensures.done c.write_at.ensures.untold c.in_ok-write_at.ensures.time c.sync.ensures.kept c.sync.ensures.untold c.sync.ensures.time holds))

pub returns-clause-long : goal.returns-clause-long
returns-clause-long g c = λ size held.
    synced_longer (g.D.Disk.content c.write_at.new.self) (g.D.Disk.content c.sync.new.self) c.sync.result c.sync.ensures.kept c.sync.ensures.doubtful c.sync.ensures.untold size
    ((wrote_longer (c.args.gate + 1) c.args.bytes.now (g.D.Disk.content c.args.disk.now) (g.D.Disk.content c.write_at.new.self) c.in_ok-write_at.ensures.done c.write_at.ensures.untold c.requires.place).0 size held)

pub returns-clause-longer : goal.returns-clause-longer
returns-clause-longer g c = when_ok c.sync.result _ (λ value is.
    synced_longer (g.D.Disk.content c.write_at.new.self) (g.D.Disk.content c.sync.new.self) c.sync.result c.sync.ensures.kept c.sync.ensures.doubtful c.sync.ensures.untold _
    (wrote_longer (c.args.gate + 1) c.args.bytes.now (g.D.Disk.content c.args.disk.now) (g.D.Disk.content c.write_at.new.self) c.in_ok-write_at.ensures.done c.write_at.ensures.untold c.requires.place).1)

pub returns-in_err-write_at-clause-told : goal.returns-in_err-write_at-clause-told
returns-in_err-write_at-clause-told g c =
    tore_told (HasChangedWithin (c.args.gate + 1) (length c.args.bytes.now)) (g.D.Disk.content c.args.disk.now) (g.D.Disk.content c.write_at.new.self) c.in_err-write_at.ensures.torn

pub returns-clause-told : goal.returns-clause-told
returns-clause-told g c =
    told_again (g.D.Disk.content c.args.disk.now) (g.D.Disk.content c.write_at.new.self) (g.D.Disk.content c.sync.new.self)
    (wrote_told (c.args.gate + 1) c.args.bytes.now (g.D.Disk.content c.args.disk.now) (g.D.Disk.content c.write_at.new.self) c.in_ok-write_at.ensures.done)
    (synced_told (g.D.Disk.content c.write_at.new.self) (g.D.Disk.content c.sync.new.self) c.sync.result c.sync.ensures.kept c.sync.ensures.doubtful)
