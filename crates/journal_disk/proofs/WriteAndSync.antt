-- A write and then a sync, of which each call keeps what the disk holds.
use Rattle.std.proofs.Common.{◌≡◌, ◌⊎◌, inl, inr, ℕ, ◌+◌, List, [], ◌∷◌, length, Option, None, Some, IfSome, IfNone, Result, Ok, Err, OnOk, OnErr, refl, sym, ap, subst}
use Rattle.std.specs.Prelude.{IsSomeAnd}
use Rattle.acl_ports.specs.Crash.{BecomesSynced, Elapses, IsTorn, LeavesOnly, Pending, all_synced, with_write}
use Rattle.acl_ports.specs.Disk.{HasChangedIn, HasChangedWithin, Stays, content_after_write}
use Rattle.journal_disk.proofs.Steps.{Told, all_of, dirtied, further, if_told, starts, still, synced, synced_or_not, tore, untold_again, wrote}
use Rattle.journal_disk.specs.Held.{Holds, Leaves}

-- each call keeps this, whatever it answers, and then each image has that
pub record Keeps (at : ℕ) (bytes : List ℕ) (I : List ℕ → Pending → Type 0) (P : List ℕ → Type 0) : Type 0 where
  pub images : (held : List ℕ) (known : Pending) (image : List ℕ) → I held known → IsTorn known.dirty known.synced image → P image
  pub wrote : (held : List ℕ) (known : Pending) → I held known → I (content_after_write held at bytes) (dirtied at (length bytes) known)
  pub tore : (held next : List ℕ) (known : Pending) → I held known → HasChangedWithin at (length bytes) held next → I next known
  pub widens : (held : List ℕ) (known : Pending) → I held known → I held (dirtied at (length bytes) known)
  pub synced : (held : List ℕ) (known : Pending) → I held known → I held (all_of held)
  pub sync_tore : (held next : List ℕ) (known : Pending) → I held known → HasChangedIn known.dirty held next → I next known

module _ {D : Type 0} (content : D → Option (List ℕ)) (moment : D → ℕ) (pending : D → ℕ → Option Pending) (at : ℕ) (bytes : List ℕ) (I : List ℕ → Pending → Type 0) (P : List ℕ → Type 0)
    (keeps : Keeps at bytes I P) where
  -- a write that failed
  module _ (old new : D) (changed : IfSome (content old) (λ held. IsSomeAnd (content new) (HasChangedWithin at (length bytes) held))) (untold : IfNone (content old) (content new ≡ None))
      (time : Elapses (moment old) (moment new) (pending old) (pending new) (λ a b. (b ≡ a) ⊎ (b ≡ with_write at (length bytes) a))) (holds : Holds content moment pending I old) where
    torn : Told (content old) (pending old (moment old)) I → Told (content new) (pending new (moment new)) I
    torn told = tore I at (length bytes) (content old) (content new) (pending old (moment old)) (pending new (moment new)) keeps.tore keeps.widens changed time.step told

    pub failed_keeps : Holds content moment pending I new
    failed_keeps = still (content old) (content new) _ _ holds untold torn

    pub failed_leaves : Leaves content moment pending old new P
    failed_leaves = if_told (content old) _ (LeavesOnly moment pending old new P) holds (λ told.
        further content moment pending I P keeps.images old old new _ (starts content moment pending I P keeps.images old told) time (torn told))

  -- a write that succeeded, and the sync
  module _ {T E : Type 0} (old mid new : D) (result : Result T E) (done : IfSome (content old) (λ held. content mid ≡ Some (content_after_write held at bytes))) (untold : IfNone (content old) (content mid ≡ None))
      (time : Elapses (moment old) (moment mid) (pending old) (pending mid) (λ a b. b ≡ with_write at (length bytes) a))
      (stays : OnOk result (Stays (content mid) (content new))) (changed : OnErr result (IfSome (content mid) (λ held. IfSome (pending mid (moment mid)) (λ known. IsSomeAnd (content new) (HasChangedIn known.dirty held)))))
      (untold_too : IfNone (content mid) (content new ≡ None)) (time_too : Elapses (moment mid) (moment new) (pending mid) (pending new) (BecomesSynced (content mid) result))
      (holds : Holds content moment pending I old) where
    first : Told (content old) (pending old (moment old)) I → Told (content mid) (pending mid (moment mid)) I
    first told = wrote I I at bytes (content old) (content mid) (pending old (moment old)) (pending mid (moment mid)) keeps.wrote done time.step told

    second : Told (content mid) (pending mid (moment mid)) I → Told (content new) (pending new (moment new)) I
    second told = synced_or_not I (content mid) (content new) (pending mid (moment mid)) (pending new (moment new)) result keeps.synced keeps.sync_tore stays changed time_too.step told

    pub done_keeps : Holds content moment pending I new
    done_keeps = still (content old) (content new) _ _ holds (untold_again (content old) (content mid) (content new) untold untold_too) (λ told. second (first told))

    pub done_leaves : Leaves content moment pending old new P
    done_leaves = if_told (content old) _ (LeavesOnly moment pending old new P) holds (λ told.
        further content moment pending I P keeps.images old mid new _
        (further content moment pending I P keeps.images old old mid _ (starts content moment pending I P keeps.images old told) time (first told))
        time_too (second (first told)))

  -- both succeeded: what was written is there for good
  pub both_done : {T E : Type 0} (J K : List ℕ → Pending → Type 0) (old mid new : D) (result : Result T E) → ((held : List ℕ) (known : Pending) → I held known → J (content_after_write held at bytes) (dirtied at (length bytes) known))
      → ((held : List ℕ) (known : Pending) → J held known → K held (all_of held))
      → IfSome (content old) (λ held. content mid ≡ Some (content_after_write held at bytes)) → IfNone (content old) (content mid ≡ None)
      → Elapses (moment old) (moment mid) (pending old) (pending mid) (λ a b. b ≡ with_write at (length bytes) a)
      → OnOk result (Stays (content mid) (content new)) → IfNone (content mid) (content new ≡ None) → Elapses (moment mid) (moment new) (pending mid) (pending new) (BecomesSynced (content mid) result)
      → Holds content moment pending I old → OnOk result (Holds content moment pending K new)
  both_done J K old mid new (Ok value) wrote_so synced_so done untold time stays untold_too time_too holds =
      still (content old) (content new) _ _ holds (untold_again (content old) (content mid) (content new) untold untold_too) (λ told.
      synced J K (content mid) (content new) (pending mid (moment mid)) (pending new (moment new)) synced_so stays time_too.step
      (wrote I J at bytes (content old) (content mid) (pending old (moment old)) (pending mid (moment mid)) wrote_so done time.step told))
  both_done J K old mid new (Err fault) wrote_so synced_so done untold time stays untold_too time_too holds = tt

pub when_ok : {T E : Type 0} (result : Result T E) (Q : Type 0) → ((value : T) → result ≡ Ok value → Q) → OnOk result Q
when_ok (Ok value) Q f = f value refl
when_ok (Err fault) Q f = tt

pub of_ok : {T E : Type 0} (result : Result T E) (value : T) (X : Type 0) → result ≡ Ok value → OnOk result X → X
of_ok (Ok other) value X is held = held
of_ok (Err fault) value X is held = cc
