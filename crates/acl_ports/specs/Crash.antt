-- What a crash may leave of a disk, at each moment of a run. A moment is the number of calls that were made.
use Rattle.std.specs.Prelude.{◌≡◌, ◌⊎◌, ℕ, ◌+◌, ◌<◌, ◌≤◌, List, [], ◌∷◌, length, get_or, Option, option_map, IfSome, Result, MatchResult}
use Rattle.std.specs.List.{All}
use Rattle.acl_ports.specs.Faults.{next_count}

-- The bytes of the last sync that succeeded, and the ranges that were written since then: where each
-- begins and how many bytes it has, the last write first. A write that failed is one of them.
pub record Pending : Type 0 where
  pub synced : List ℕ
  pub dirty : List (ℕ × ℕ)

-- no write since the last sync touched this place
abbrev pub IsClean : List (ℕ × ℕ) → ℕ → Type 0
IsClean dirty place = All (λ range. (place < range.0) ⊎ (range.0 + range.1 ≤ place)) dirty

-- no write since the last sync reached past this many bytes
abbrev pub IsWithin : List (ℕ × ℕ) → ℕ → Type 0
IsWithin dirty count = All (λ range. range.0 + range.1 ≤ count) dirty

-- Any bytes in the ranges that were written since the last sync, the synced bytes elsewhere. Once a
-- write reached past the synced bytes, there may be any bytes behind them, and any number.
pub record IsTorn (dirty : List (ℕ × ℕ)) (synced image : List ℕ) : Type 0 where
  pub no_shorter : length synced ≤ length image
  pub same : (place : ℕ) → place < length synced → IsClean dirty place → get_or image place 0 ≡ get_or synced place 0
  pub no_longer : IsWithin dirty (length synced) → length image ≤ length synced

-- a crash may leave these bytes: any bytes, where it is not told what is pending
abbrev pub IsImage : Option Pending → List ℕ → Type 0
IsImage pending image = IfSome pending (λ known. IsTorn known.dirty known.synced image)

-- a crash at some moment since that one may leave these bytes
pub record IsImageSince (pending : ℕ → Option Pending) (now since : ℕ) (image : List ℕ) : Type 0 where
  pub moment : ℕ
  pub from : since ≤ moment
  pub to : moment ≤ now
  pub left : IsImage (pending moment) image

-- this is synced, and nothing was written since
abbrev pub all_synced : Option (List ℕ) → Option Pending
all_synced content = option_map {U = Pending} (λ bytes. record { synced = bytes; dirty = [] }) content

-- a range of this many bytes there was written too
abbrev pub with_write : ℕ → ℕ → Option Pending → Option Pending
with_write at count pending = option_map (λ (known : Pending). record known { dirty = (at, count) ∷ known.dirty }) pending

-- a call that writes nothing leaves what is pending
abbrev pub StaysPending : Option Pending → Option Pending → Type 0
StaysPending before after = after ≡ before

-- a write leaves its range in doubt, and may do so too where it fails
abbrev pub BecomesDirty : {T E : Type 0} → ℕ → ℕ → Result T E → Option Pending → Option Pending → Type 0
BecomesDirty at count result before after =
    MatchResult result (λ _. after ≡ with_write at count before) (λ _. (after ≡ before) ⊎ (after ≡ with_write at count before))

-- a sync that succeeds leaves what a read gives, and one that fails leaves all in doubt that was so
abbrev pub BecomesSynced : {T E : Type 0} → Option (List ℕ) → Result T E → Option Pending → Option Pending → Type 0
BecomesSynced content result before after = MatchResult result (λ _. after ≡ all_synced content) (λ _. after ≡ before)

-- One call more: the next moment has come, the earlier ones are as they were, and what is pending goes on by this step.
pub record Elapses (before now : ℕ) (past pending : ℕ → Option Pending) (Step : Option Pending → Option Pending → Type 0) : Type 0 where
  pub tick : now ≡ next_count before
  pub later : before ≤ now
  pub kept : (moment : ℕ) → moment ≤ before → pending moment ≡ past moment
  pub step : Step (past before) (pending now)

-- Every image since the moment of the old disk has P. The moments up to that one are as they were.
pub record LeavesOnly {D : Type 0} (moment : D → ℕ) (pending : D → ℕ → Option Pending) (old new : D) (P : List ℕ → Type 0) : Type 0 where
  pub later : moment old ≤ moment new
  pub kept : (earlier : ℕ) → earlier ≤ moment old → pending new earlier ≡ pending old earlier
  pub each : (image : List ℕ) → IsImageSince (pending new) (moment new) (moment old) image → P image
