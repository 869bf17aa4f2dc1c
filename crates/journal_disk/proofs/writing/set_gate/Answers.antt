use Rattle.std.proofs.Common.{◌≡◌, ◌+◌, ◌≤◌, ℕ, Option, List, [], ◌∷◌, ◌++◌, length, arith}
use Rattle.acl_stmt.specs.declared.entry.Entry.{Entry}
use Rattle.journal_bytes.proofs.Sizes.{place}
use Rattle.journal_bytes.specs.Files.{StandsEitherWay, StandsFor, before_gate, file_size}
use Rattle.acl_ports.specs.Disk.{HasChangedWithin}
use Rattle.journal_disk.proofs.Steps.{synced_longer, synced_told, told_again, tore_longer, tore_told, wrote_longer, wrote_told}
use Rattle.journal_disk.proofs.WriteAndSync.{both_done, done_keeps, done_leaves, failed_keeps, failed_leaves, of_ok, when_ok}
use Rattle.journal_disk.proofs.Written.{closed_by, gate_keeps, list_of, opened_by}
use Rattle.journal_disk.specs.Held.{HasBytesUpTo, HoldsEither, HoldsList}
use Rattle.journal_disk.proofs.writing.set_gate.Goals as goal

gate_at : (entries : List Entry) (gate : ℕ) → gate + 1 ≡ file_size entries → gate ≡ length (before_gate entries)
gate_at entries gate size = omega (arith, size, place entries)

pub returns-in_err-write_at-clause-kept : goal.returns-in_err-write_at-clause-kept
returns-in_err-write_at-clause-kept g c = λ start entries entry size holds.
    failed_keeps g.D.Disk.content g.D.Disk.moment g.D.Disk.pending c.args.gate (c.args.value ∷ []) (HoldsEither start entries entry) (λ image. StandsEitherWay start image entries entry) (gate_keeps start entries entry c.args.gate c.args.value (gate_at entries c.args.gate size))
    c.args.disk.now c.write_at.new.self c.in_err-write_at.ensures.torn c.write_at.ensures.untold c.in_err-write_at.ensures.time holds

pub returns-in_err-write_at-clause-any_moment : goal.returns-in_err-write_at-clause-any_moment
returns-in_err-write_at-clause-any_moment g c = λ start entries entry size holds.
    failed_leaves g.D.Disk.content g.D.Disk.moment g.D.Disk.pending c.args.gate (c.args.value ∷ []) (HoldsEither start entries entry) (λ image. StandsEitherWay start image entries entry) (gate_keeps start entries entry c.args.gate c.args.value (gate_at entries c.args.gate size))
    c.args.disk.now c.write_at.new.self c.in_err-write_at.ensures.torn c.write_at.ensures.untold c.in_err-write_at.ensures.time holds

pub returns-in_err-write_at-clause-long : goal.returns-in_err-write_at-clause-long
returns-in_err-write_at-clause-long g c =
    tore_longer c.args.gate 1 (g.D.Disk.content c.args.disk.now) (g.D.Disk.content c.write_at.new.self) c.in_err-write_at.ensures.torn c.write_at.ensures.untold

pub returns-clause-kept : goal.returns-clause-kept
returns-clause-kept g c = λ start entries entry size holds.
    done_keeps g.D.Disk.content g.D.Disk.moment g.D.Disk.pending c.args.gate (c.args.value ∷ []) (HoldsEither start entries entry) (λ image. StandsEitherWay start image entries entry) (gate_keeps start entries entry c.args.gate c.args.value (gate_at entries c.args.gate size))
    c.args.disk.now c.write_at.new.self c.sync.new.self c.sync.result c.in_ok-write_at.ensures.done c.write_at.ensures.untold c.in_ok-write_at.ensures.time c.sync.ensures.kept c.sync.ensures.torn c.sync.ensures.untold c.sync.ensures.time holds

pub returns-clause-any_moment : goal.returns-clause-any_moment
returns-clause-any_moment g c = λ start entries entry size holds.
    done_leaves g.D.Disk.content g.D.Disk.moment g.D.Disk.pending c.args.gate (c.args.value ∷ []) (HoldsEither start entries entry) (λ image. StandsEitherWay start image entries entry) (gate_keeps start entries entry c.args.gate c.args.value (gate_at entries c.args.gate size))
    c.args.disk.now c.write_at.new.self c.sync.new.self c.sync.result c.in_ok-write_at.ensures.done c.write_at.ensures.untold c.in_ok-write_at.ensures.time c.sync.ensures.kept c.sync.ensures.torn c.sync.ensures.untold c.sync.ensures.time holds

pub returns-clause-opened : goal.returns-clause-opened
returns-clause-opened g c = when_ok c.sync.result _ (λ value is start entries entry size holds which.
    of_ok c.sync.result value _ is
    (both_done g.D.Disk.content g.D.Disk.moment g.D.Disk.pending c.args.gate (c.args.value ∷ []) (HoldsEither start entries entry) (λ image. StandsEitherWay start image entries entry) (gate_keeps start entries entry c.args.gate c.args.value (gate_at entries c.args.gate size))
    (λ held known. StandsFor start held (entries ++ entry ∷ [])) (HoldsList start (entries ++ entry ∷ []))
    c.args.disk.now c.write_at.new.self c.sync.new.self c.sync.result
    (λ held known either. opened_by start entries entry c.args.gate c.args.value held (gate_at entries c.args.gate size) either.read which)
    (λ held known stands. list_of start (entries ++ entry ∷ []) held stands)
    c.in_ok-write_at.ensures.done c.write_at.ensures.untold c.in_ok-write_at.ensures.time c.sync.ensures.kept c.sync.ensures.untold c.sync.ensures.time holds))

pub returns-clause-closed : goal.returns-clause-closed
returns-clause-closed g c = when_ok c.sync.result _ (λ value is start entries entry size holds which.
    of_ok c.sync.result value _ is
    (both_done g.D.Disk.content g.D.Disk.moment g.D.Disk.pending c.args.gate (c.args.value ∷ []) (HoldsEither start entries entry) (λ image. StandsEitherWay start image entries entry) (gate_keeps start entries entry c.args.gate c.args.value (gate_at entries c.args.gate size))
    (λ held known. StandsFor start held entries) (HoldsList start entries)
    c.args.disk.now c.write_at.new.self c.sync.new.self c.sync.result
    (λ held known either. closed_by start entries entry c.args.gate c.args.value held (gate_at entries c.args.gate size) either.read which)
    (λ held known stands. list_of start entries held stands)
    c.in_ok-write_at.ensures.done c.write_at.ensures.untold c.in_ok-write_at.ensures.time c.sync.ensures.kept c.sync.ensures.untold c.sync.ensures.time holds))

inside : (content : Option (List ℕ)) (gate : ℕ) → HasBytesUpTo content (gate + 1) → HasBytesUpTo content gate
inside content gate held = λ bytes is. let long : gate + 1 ≤ length bytes = held bytes is in omega (arith, long)

pub returns-clause-long : goal.returns-clause-long
returns-clause-long g c = λ size held.
    synced_longer (g.D.Disk.content c.write_at.new.self) (g.D.Disk.content c.sync.new.self) c.sync.result c.sync.ensures.kept c.sync.ensures.doubtful c.sync.ensures.untold size
    ((wrote_longer c.args.gate (c.args.value ∷ []) (g.D.Disk.content c.args.disk.now) (g.D.Disk.content c.write_at.new.self) c.in_ok-write_at.ensures.done c.write_at.ensures.untold (inside (g.D.Disk.content c.args.disk.now) c.args.gate c.requires)).0 size held)

pub returns-in_err-write_at-clause-told : goal.returns-in_err-write_at-clause-told
returns-in_err-write_at-clause-told g c =
    tore_told (HasChangedWithin c.args.gate 1) (g.D.Disk.content c.args.disk.now) (g.D.Disk.content c.write_at.new.self) c.in_err-write_at.ensures.torn

pub returns-clause-told : goal.returns-clause-told
returns-clause-told g c =
    told_again (g.D.Disk.content c.args.disk.now) (g.D.Disk.content c.write_at.new.self) (g.D.Disk.content c.sync.new.self)
    (wrote_told c.args.gate (c.args.value ∷ []) (g.D.Disk.content c.args.disk.now) (g.D.Disk.content c.write_at.new.self) c.in_ok-write_at.ensures.done)
    (synced_told (g.D.Disk.content c.write_at.new.self) (g.D.Disk.content c.sync.new.self) c.sync.result c.sync.ensures.kept c.sync.ensures.doubtful)
