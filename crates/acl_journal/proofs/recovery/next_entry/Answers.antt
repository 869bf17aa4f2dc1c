use Rattle.std.proofs.Common.{ℕ, List, refl, subst, drop, arith}
use Rattle.acl_journal.proofs.Taking.{goes, if_some, refused}
use Rattle.acl_journal.specs.Recovery.{NoneIsAccepted, TakesEntry}
use Rattle.acl_journal.proofs.recovery.next_entry.Goals as goal

pub returns-then-branch-clause-next : goal.returns-then-branch-clause-next
returns-then-branch-clause-next g c =
    goes (g.D.Disk.content c.args.disk.now) c.args.gate _ (g.R.Replay.state c.args.replay.now) (g.R.Replay.state c.take_entry.new.replay) c.args.entries.now c.take_entry.new.entries c.in-Ok-Some.payload.items
    (subst (λ (p : List ℕ). TakesEntry p (g.R.Replay.state c.args.replay.now) (g.R.Replay.state c.take_entry.new.replay) c.args.entries.now c.take_entry.new.entries) c.as_slice.ensures.value
    (c.in_ok-take_entry-in-Ok-Some.ensures.taken c.if-branch.true))
    (omega (arith, c.len.ensures)) (rw c.in-Ok-Some.field-0-is at c.in-Ok-Some.ensures.within) (rw c.in-Ok-Some.field-0-is at c.in-Ok-Some.ensures.found)

pub returns-in-Ok-Some-clause-err : goal.returns-in-Ok-Some-clause-err
returns-in-Ok-Some-clause-err g c =
    if_some (g.D.Disk.content c.args.disk.now) _ _ (λ held begins whole. (
      refl,
      refused (drop c.args.gate held) c.args.gate c.in-Ok-Some.payload.items (g.R.Replay.state c.args.replay.now) begins
          (subst (λ (p : List ℕ). NoneIsAccepted p (g.R.Replay.state c.args.replay.now)) c.as_slice.ensures.value (c.in_ok-take_entry-in-Ok-Some.ensures.bad c.if-branch.false)),
    ))
    (rw c.in-Ok-Some.field-0-is at c.in-Ok-Some.ensures.found)
