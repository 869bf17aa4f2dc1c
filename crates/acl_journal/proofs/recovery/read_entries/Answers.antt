use Rattle.std.proofs.Common.{◌<◌, ◌≤◌, List, length, subst, sym, arith}
use Rattle.acl_stmt.specs.declared.entry.Entry.{Entry}
use Rattle.journal_bytes.specs.Files.{most_entries}
use Rattle.journal_disk.proofs.Pieces.{quiet_again, quiet_none}
use Rattle.acl_journal.proofs.Progress.{Progress, end_refused, goes_still, next_refused, progress_more, progress_none}
use Rattle.acl_journal.proofs.recovery.read_entries.Goals as goal

pub records-init : goal.records-init
records-init g c = record {
  progress = subst (λ (es : List Entry). Progress (g.R.Replay.state c.args.replay.now) 8 es (g.R.Replay.state c.args.replay.now) (g.D.Disk.content c.args.disk.now)) (sym c.requires) (progress_none (g.R.Replay.state c.args.replay.now) (g.D.Disk.content c.args.disk.now));
  quiet = quiet_none g.D.Disk.content g.D.Disk.moment g.D.Disk.pending c.args.disk.now;
  faults = omega arith;
}

pub records-preserved : goal.records-preserved
records-preserved g c =
    let few : length c.records.entries < most_entries = omega (arith, c.len.ensures, c.records-test.true) in
    record {
      progress =
          progress_more (g.R.Replay.state c.args.replay.now) c.records.gate c.in-Ok-Some.next c.records.entries c.next_entry.new.entries (g.R.Replay.state c.records.replay) (g.R.Replay.state c.next_entry.new.replay) (g.D.Disk.content c.args.disk.now)
          c.records.invariant.progress
          (goes_still (g.D.Disk.content c.args.disk.now) (g.D.Disk.content c.records.disk) c.records.gate c.in-Ok-Some.next (g.R.Replay.state c.records.replay) (g.R.Replay.state c.next_entry.new.replay) c.records.entries c.next_entry.new.entries
          c.records.invariant.quiet.kept c.records.invariant.quiet.untold (rw c.in-Ok-Some.field-0-is at c.in-Ok-Some.ensures.next))
          few;
      quiet = quiet_again g.D.Disk.content g.D.Disk.moment g.D.Disk.pending c.args.disk.now c.records.disk c.next_entry.new.disk c.records.invariant.quiet c.next_entry.ensures.quiet;
      faults = omega (arith, c.records.invariant.faults, c.next_entry.ensures.faults);
    }

pub returns-in-Err-clause-err : goal.returns-in-Err-clause-err
returns-in-Err-clause-err g c =
    next_refused (g.R.Replay.state c.args.replay.now) c.records.gate c.records.entries (g.R.Replay.state c.records.replay) c.args.total (g.D.Disk.content c.args.disk.now) (g.D.Disk.content c.records.disk) c.in-Err.refusal
    c.records.invariant.progress c.records.invariant.quiet.kept c.in-Err.ensures.err

pub returns-in-Err-end_at-clause-err : goal.returns-in-Err-end_at-clause-err
returns-in-Err-end_at-clause-err g c =
    let full : most_entries ≤ length c.records.entries = omega (arith, c.len.ensures, c.records-test.false) in
    end_refused (g.R.Replay.state c.args.replay.now) c.records.gate c.records.entries (g.R.Replay.state c.records.replay) c.args.total (g.D.Disk.content c.args.disk.now) (g.D.Disk.content c.records.disk) c.in-Err-end_at.refusal
    full c.records.invariant.progress c.records.invariant.quiet.kept c.in-Err-end_at.ensures.err
