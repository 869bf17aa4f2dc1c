-- A write and then a sync, on a disk on which nothing is in doubt.
use Rattle.std.proofs.Common.{◌≡◌, ℕ, ◌≤◌, List, [], ◌∷◌, length, Option, None, Some, Result, Ok, Err, IfSome, OnOk, refl, sym, ◌∙◌, ap, subst}
use Rattle.std.specs.Option.{ForSome}
use Rattle.acl_ports.specs.Crash.{BecomesSynced, Elapses, IsImage, IsImageSince, IsTorn, LeavesOnly, Pending, all_synced, with_write}
use Rattle.acl_ports.specs.Disk.{content_after_write}
use Rattle.acl_ports.proofs.Crash.{goes_on, only_synced, started, synced_is_torn, synced_now, written_is_torn}

module _ {D T E : Type 0} (moment : D → ℕ) (pending : D → ℕ → Option Pending) (old mid new : D) (at : ℕ) (bytes : List ℕ) where
  -- whatever the sync answers, it leaves the write's range in doubt at most
  after_sync : (held : List ℕ) (content : Option (List ℕ)) (result : Result T E) → at ≤ length held → content ≡ Some (content_after_write held at bytes)
      → pending mid (moment mid) ≡ with_write at (length bytes) (all_synced (Some held)) → BecomesSynced content result (pending mid (moment mid)) (pending new (moment new))
      → (image : List ℕ) → IsImage (pending new (moment new)) image → IsTorn ((at, length bytes) ∷ []) held image
  after_sync held content (Ok value) inside is dirty step image left =
      let synced : image ≡ content_after_write held at bytes = only_synced (content_after_write held at bytes) image (subst (λ (p : Option Pending). IsImage p image) (step ∙ ap all_synced is) left) in
      subst (IsTorn ((at, length bytes) ∷ []) held) (sym synced) (written_is_torn held bytes at inside)
  after_sync held content (Err fault) inside is dirty step image left = subst (λ (p : Option Pending). IsImage p image) (step ∙ dirty) left

  pub any_moment : (before content : Option (List ℕ)) (result : Result T E) → ForSome before (λ held. at ≤ length held) → pending old (moment old) ≡ all_synced before
      → IfSome before (λ held. content ≡ Some (content_after_write held at bytes))
      → Elapses (moment old) (moment mid) (pending old) (pending mid) (λ a b. b ≡ with_write at (length bytes) a)
      → Elapses (moment mid) (moment new) (pending mid) (pending new) (BecomesSynced content result)
      → IfSome before (λ held. LeavesOnly moment pending old new (IsTorn ((at, length bytes) ∷ []) held))
  any_moment None content result inside settled is write sync = tt
  any_moment (Some held) content result inside settled is write sync =
      let P = IsTorn ((at, length bytes) ∷ []) held in
      let dirty : pending mid (moment mid) ≡ with_write at (length bytes) (all_synced (Some held)) = write.step ∙ ap (with_write at (length bytes)) settled in
      let first = started moment pending old P (λ image left. synced_is_torn (at, length bytes) held image (subst (λ (p : Option Pending). IsImage p image) settled left)) in
      let second = goes_on moment pending old old mid P _ first write (λ image left. subst (λ (p : Option Pending). IsImage p image) dirty left) in
      goes_on moment pending old mid new P _ second sync (after_sync held content result (inside held refl) is dirty sync.step)

  pub durable : (before content : Option (List ℕ)) (result : Result T E) → IfSome before (λ held. content ≡ Some (content_after_write held at bytes))
      → Elapses (moment mid) (moment new) (pending mid) (pending new) (BecomesSynced content result)
      → OnOk result (IfSome before (λ held. (image : List ℕ) → IsImageSince (pending new) (moment new) (moment new) image → image ≡ content_after_write held at bytes))
  durable None content (Ok value) is sync = tt
  durable (Some held) content (Ok value) is sync = λ image since. synced_now (pending new) (moment new) (content_after_write held at bytes) image (sync.step ∙ ap all_synced is) since
  durable before content (Err fault) is sync = tt
