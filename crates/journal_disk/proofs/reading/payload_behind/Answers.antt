use Rattle.std.proofs.Common.{◌≡◌, ◌+◌, ◌<◌, ◌⊎◌, inl, inr, ℕ, List, Option, None, Some, IfSome, length, drop, arith}
use Rattle.journal_bytes.specs.Files.{most_bytes}
use Rattle.journal_disk.proofs.Pieces.{cut_payload, too_far, under, whole_payload}
use Rattle.journal_disk.specs.Read.{BeginsAs, BeginsBadly, IsWithin}
use Rattle.journal_disk.specs.declared.reading.Front.TheVariants.{Open}
use Rattle.journal_disk.proofs.reading.payload_behind.Goals as goal
use Rattle.journal_disk.proofs.reading.payload_behind.Goals.{then-end-total-via-then-end-total, then-end-total-via-else-end-total+then-end-ge-MOST_BYTES}

all_told : (content : Option (List ℕ)) (P : List ℕ → Type 0) → ((held : List ℕ) → P held) → IfSome content P
all_told None P f = tt
all_told (Some held) P f = f held

pub returns-then-end-total-clause-bad : goal.returns-then-end-total-clause-bad
returns-then-end-total-clause-bad g c = all_told (g.D.Disk.content c.args.disk.now) _ (λ held whole begins.
    too_far held c.args.total c.args.at c.args.size whole begins (
    elim c.then-end-total.branch [ then-end-total-via-then-end-total w ↦ inl (omega (arith, w.if-end-total.true)) | then-end-total-via-else-end-total+then-end-ge-MOST_BYTES w ↦ inr (omega (arith, w.if-end-ge-MOST_BYTES.true)) ]))

pub returns-in-Ok-Some-clause-found : goal.returns-in-Ok-Some-clause-found
returns-in-Ok-Some-clause-found g c =
    let long : length c.in-Ok-Some.payload.items ≡ c.args.size = rw c.in-Ok-Some.field-0-is at c.in-Ok-Some.ensures.long in
    under (g.D.Disk.content c.args.disk.now) _ _ (λ held same begins.
    whole_payload held c.in-Ok-Some.payload.items c.args.at c.args.size begins same long (omega (arith, long, c.if-end-ge-MOST_BYTES.false)))
    (rw c.in-Ok-Some.field-0-is at c.in-Ok-Some.ensures.found)
