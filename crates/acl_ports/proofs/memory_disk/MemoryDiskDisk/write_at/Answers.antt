use Rattle.std.proofs.Common.{rules, ◌≡◌, ◌+◌, ◌-◌, ◌<◌, ◌≤◌, ◌^◌, min, length, true, false, nat_lt, Ok, inl, inr, ap, arith, subst, length-append}
use Rattle.std.proofs.lemmas.Bool.Decides.{nat_tests}
use Rattle.acl_ports.specs.Disk.{content_after_write}
use Rattle.acl_ports.specs.MemoryDisk.{DiskState, after_disk_call, after_write, replaced_bytes}
use Rattle.acl_ports.specs.declared.Failed.{Failed}
use Rattle.acl_ports.specs.declared.disk_log.Call.TheVariants.{Broken}
use Rattle.acl_ports.proofs.Moments.{written, written_in_vain}
use Rattle.acl_ports.proofs.Undo.{can_return, seen, seen_written}
use Rattle.acl_ports.proofs.memory_disk.MemoryDiskDisk.write_at.Goals as goal

pub returns-in_err-answer-clause-kept : goal.returns-in_err-answer-clause-kept
returns-in_err-answer-clause-kept c = search rules

pub returns-in_err-answer-clause-time : goal.returns-in_err-answer-clause-time
returns-in_err-answer-clause-time c =
    let small : c.args.self.now.most_calls < 2 ^ 64 = omega (arith, ap (λ d. d.most_calls) c.self.view_is, c.self.invariant) in
    let early : c.args.self.now.calls.made < 2 ^ 64 = omega (arith, ap (λ d. d.calls.made) c.self.view_is, c.self.invariant) in
    written_in_vain c.args.self.now _ c.args.at (length c.args.bytes.now) c.from_residual.result small early c.from_residual.ensures.0 (returns-in_err-answer-clause-kept c)

pub invariant_of-self-2 : goal.invariant_of-self-2
invariant_of-self-2 c =
    let recorded : nat_lt c.self.inside.log.calls.made c.self.inside.log.most ≡ true = grind (arith, nat_tests, c.in_ok-answer.ensures.fails) in
    let least : c.min-over.result ≡ min (length c.args.bytes.now) (length c.self.inside.bytes.items - c.args.at) = grind arith in
    let place : c.args.at ≤ length c.self.inside.bytes.items = grind arith in
    let fits : c.fits-has_room.result ≡ false → ⊥ = grind (arith, c.in_ok-answer.ensures.fails) in
    let within : length (content_after_write c.self.inside.bytes.items c.args.at c.args.bytes.now) ≤ c.self.inside.room = grind (arith, fits, c.fits-has_room.ensures) in
    let spare : length c.self.inside.replaced.items + length (replaced_bytes c.self.inside.bytes.items c.args.at (length c.args.bytes.now)) ≤ c.self.inside.room = grind (arith, fits, c.fits-has_room.ensures) in (
      omega (arith, within, ap length c.overwrite.ensures.bytes),
      omega (arith, spare, ap length c.overwrite.ensures.replaced, length-append c.self.inside.replaced.items (replaced_bytes c.self.inside.bytes.items c.args.at (length c.args.bytes.now))),
      omega (arith, c.self.invariant, c.overwrite.ensures),
      omega (arith, c.self.invariant, c.overwrite.ensures),
      omega (arith, c.self.invariant, ap (λ s. s.most) c.in_ok-answer.ensures.after),
      omega (arith, c.self.invariant, ap (λ s. s.calls.made) c.in_ok-answer.ensures.after),
      can_return c.self.inside.log c.answer.new.self c.self.inside.bytes.items c.overwrite.new.bytes.items c.args.bytes.now c.self.inside.replaced.items c.overwrite.new.replaced.items c.args.at c.min-over.result (Broken c.args.at (length c.args.bytes.now)) place least
          c.in_ok-answer.ensures.after recorded c.overwrite.ensures.bytes c.overwrite.ensures.replaced c.self.invariant.6,
    )

pub returns-clause-done : goal.returns-clause-done
returns-clause-done c =
    let recorded : nat_lt c.self.inside.log.calls.made c.self.inside.log.most ≡ true = grind (arith, nat_tests, c.in_ok-answer.ensures.fails) in
    let least : c.min-over.result ≡ min (length c.args.bytes.now) (length c.self.inside.bytes.items - c.args.at) = grind arith in
    let place : c.args.at ≤ length c.self.inside.bytes.items = grind arith in
    subst
    (λ (old : DiskState). seen c.answer.new.self c.overwrite.new.replaced.items c.overwrite.new.bytes.items c.self.inside.room
    ≡ record (after_disk_call {T = Unit {0}} {E = Failed} old (after_write c.args.at (length c.args.bytes.now) old.pending) (Ok (tt {0}))) {
      content = content_after_write old.content c.args.at c.args.bytes.now;
      replaced = old.replaced + length (replaced_bytes old.content c.args.at (length c.args.bytes.now));
    })
    c.self.view_is
    (seen_written c.self.inside.log c.answer.new.self c.self.inside.bytes.items c.overwrite.new.bytes.items c.args.bytes.now c.self.inside.replaced.items c.overwrite.new.replaced.items c.args.at c.min-over.result c.self.inside.room (Broken c.args.at (length c.args.bytes.now)) place least
    c.in_ok-answer.ensures.after recorded c.overwrite.ensures.bytes c.overwrite.ensures.replaced)

pub returns-clause-fails : goal.returns-clause-fails
returns-clause-fails c = search rules

pub returns-clause-time : goal.returns-clause-time
returns-clause-time c =
    let done = returns-clause-done c in
    let small : c.args.self.now.most_calls < 2 ^ 64 = omega (arith, ap (λ d. d.most_calls) c.self.view_is, c.self.invariant) in
    let early : c.args.self.now.calls.made < 2 ^ 64 = omega (arith, ap (λ d. d.calls.made) c.self.view_is, c.self.invariant) in
    written {T = Unit {0}} {E = Failed} c.args.self.now (seen c.answer.new.self c.overwrite.new.replaced.items c.overwrite.new.bytes.items c.self.inside.room) c.args.at (length c.args.bytes.now) (Ok (tt {0})) small early (λ late. (returns-clause-fails c).1 (inl (inr late)))
    (ap (λ (disk : DiskState). disk.calls.made) done) (ap (λ (disk : DiskState). disk.most_calls) done) (ap (λ (disk : DiskState). disk.pending) done) (ap (λ (disk : DiskState). disk.past) done)
