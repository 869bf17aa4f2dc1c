-- The images that calls leave, one run after the other.
use Rattle.std.proofs.Common.{◌≡◌, ◌⊎◌, inl, inr, ⊎_elim, ℕ, ◌+◌, ◌<◌, ◌≤◌, List, [], ◌∷◌, ◌++◌, length, Option, None, Some, IfSome, IfNone, Result, Ok, Err, OnOk, OnErr, refl, sym, ap, subst, ◌∙◌, arith}
use Rattle.std.specs.Prelude.{IsSome}
use Rattle.std.proofs.lemmas.Bool.{cases_lt}
use Rattle.acl_model.specs.State.{State}
use Rattle.acl_ports.proofs.Crash.{goes_on, joined, only_synced, started, weaker}
use Rattle.acl_ports.specs.Crash.{BecomesSynced, Elapses, IsImage, IsImageSince, LeavesOnly, Pending, all_synced}
use Rattle.acl_stmt.specs.declared.entry.Entry.{Entry}
use Rattle.journal_bytes.proofs.Standing.{either_way, long_enough}
use Rattle.journal_bytes.specs.Files.{StandsEitherWay, StandsFor, file_size}
use Rattle.journal_disk.specs.Held.{HasBytesUpTo, IsStillTold, Leaves}
use Rattle.journal_disk.specs.Read.{OnlyReads}

abbrev pub IsEither : State → List Entry → Entry → List ℕ → Type 0
IsEither start entries entry image = StandsFor start image entries ⊎ StandsFor start image (entries ++ entry ∷ [])

module _ {D : Type 0} (content : D → Option (List ℕ)) (moment : D → ℕ) (pending : D → ℕ → Option Pending) where
  pub leaves_weaker : (old new : D) (P Q : List ℕ → Type 0) → ((image : List ℕ) → P image → Q image) → Leaves content moment pending old new P → Leaves content moment pending old new Q
  leaves_weaker old new P Q follows leaves = at (content old) leaves
    where
      at : (o : Option (List ℕ)) → IfSome o (λ _. LeavesOnly moment pending old new P) → IfSome o (λ _. LeavesOnly moment pending old new Q)
      at None leaves = tt
      at (Some held) leaves = weaker moment pending old new P Q leaves follows

  pub leaves_joined : (old mid new : D) (P : List ℕ → Type 0) → IsStillTold (content old) (content mid) → Leaves content moment pending old mid P → Leaves content moment pending mid new P → Leaves content moment pending old new P
  leaves_joined old mid new P told first second = at (content old) (content mid) told first second
    where
      at : (o m : Option (List ℕ)) → IsStillTold o m → IfSome o (λ _. LeavesOnly moment pending old mid P) → IfSome m (λ _. LeavesOnly moment pending mid new P) → IfSome o (λ _. LeavesOnly moment pending old new P)
      at None m told first second = tt
      at (Some held) None told first second = cc
      at (Some held) (Some next) told first second = joined moment pending old mid new P first second

  pub list_leaves : (start : State) (entries : List Entry) (entry : Entry) (old new : D) → Leaves content moment pending old new (λ image. StandsFor start image entries) → Leaves content moment pending old new (IsEither start entries entry)
  list_leaves start entries entry old new leaves = leaves_weaker old new (λ image. StandsFor start image entries) (IsEither start entries entry) (λ image stands. inl stands) leaves

  pub either_leaves : (start : State) (entries : List Entry) (entry : Entry) (old new : D) → Leaves content moment pending old new (λ image. StandsEitherWay start image entries entry) → Leaves content moment pending old new (IsEither start entries entry)
  either_leaves start entries entry old new leaves = leaves_weaker old new (λ image. StandsEitherWay start image entries entry) (IsEither start entries entry) (λ image either. either_way start image entries entry either) leaves

  -- calls that write nothing leave what was left before
  pub leaves_quiet : (old mid new : D) (P : List ℕ → Type 0) → LeavesOnly moment pending old mid P → OnlyReads content moment pending mid new → LeavesOnly moment pending old new P
  leaves_quiet old mid new P so_far quiet = record {
    later = omega (arith, so_far.later, quiet.later);
    kept = λ earlier before. quiet.earlier earlier (omega (arith, before, so_far.later)) ∙ so_far.kept earlier before;
    each = λ image since. at image since.moment since.from since.to since.left (cases_lt since.moment (moment mid));
  }
    where
      at : (image : List ℕ) (t : ℕ) → moment old ≤ t → t ≤ moment new → IsImage (pending new t) image → (t < moment mid) ⊎ (moment mid ≤ t) → P image
      at image t from to left (inl before) =
          so_far.each image (record { moment = t; from = from; to = omega (arith, before); left = subst (λ (p : Option Pending). IsImage p image) (quiet.earlier t (omega (arith, before))) left })
      at image t from to left (inr after) =
          so_far.each image (record { moment = moment mid; from = so_far.later; to = omega arith; left = subst (λ (p : Option Pending). IsImage p image) (quiet.since t after to) left })

  -- a sync leaves what might have been left before, or what a read gives
  abbrev pub IsOld : D → List ℕ → List ℕ → Type 0
  IsOld old held image = IsImage (pending old (moment old)) image ⊎ (image ≡ held)

  pub sync_leaves : {T E : Type 0} (old mid : D) (held : List ℕ) (result : Result T E) → content old ≡ Some held → Elapses (moment old) (moment mid) (pending old) (pending mid) (BecomesSynced (content old) result) → LeavesOnly moment pending old mid (IsOld old held)
  sync_leaves old mid held result is time =
      goes_on moment pending old old mid (IsOld old held) _ (started moment pending old (IsOld old held) (λ image left. inl left)) time (λ image left. at image result time.step left)
    where
      at : {T E : Type 0} (image : List ℕ) (result : Result T E) → BecomesSynced (content old) result (pending old (moment old)) (pending mid (moment mid)) → IsImage (pending mid (moment mid)) image → IsOld old held image
      at image (Ok value) step left = inr (only_synced held image (subst (λ (p : Option Pending). IsImage p image) (step ∙ ap all_synced is) left))
      at image (Err fault) step left = inl (subst (λ (p : Option Pending). IsImage p image) step left)

-- a file that stands for the list has its last gate
pub long_if_stands : (start : State) (entries : List Entry) (content after : Option (List ℕ)) (now : Option Pending) (size : ℕ) → size ≡ file_size entries → IfSome content (λ held. StandsFor start held entries)
    → IfSome content (λ held. (after ≡ Some held) × (now ≡ all_synced (Some held))) → IfNone content (after ≡ None) → HasBytesUpTo after size
long_if_stands start entries None after now size is stands synced untold = λ found e. absurd (cc)
long_if_stands start entries (Some held) after now size is stands synced untold = λ found e.
    let kept : after ≡ Some held = synced.0 in
    let same : held ≡ found = cc in
    let enough : file_size entries ≤ length held = long_enough entries held stands.gate stands.behind stands.bytes in
    subst (λ (x : List ℕ). size ≤ length x) same (omega (arith, is, enough))
