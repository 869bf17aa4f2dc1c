-- What the disk of a journal holds: what a read gives, what was synced, and what is in doubt.
use Rattle.std.specs.Prelude.{◌≡◌, ◌+◌, ◌≤◌, ℕ, List, length, Option, IfSome, IsSome, IsSomeAnd}
use Rattle.std.specs.List.{All}
use Rattle.std.specs.Option.{ForSome}
use Rattle.acl_model.specs.State.{State}
use Rattle.acl_ports.specs.Crash.{LeavesOnly, Pending}
use Rattle.acl_stmt.specs.declared.entry.Entry.{Entry}
use Rattle.journal_bytes.specs.Files.{StandsEitherWay, StandsFor, before_gate, file_size}

-- What a read gives stands for the list, and so does what was synced. Nothing that is in doubt reaches the last gate.
pub record HoldsList (start : State) (entries : List Entry) (held : List ℕ) (known : Pending) : Type 0 where
  pub read : StandsFor start held entries
  pub synced : StandsFor start known.synced entries
  pub in_doubt : All (λ range. file_size entries ≤ range.0) known.dirty

-- What a read gives stands for the list or for the list with the entry, and so does what was synced. Nothing but the last
-- gate of the list is in doubt.
pub record HoldsEither (start : State) (entries : List Entry) (entry : Entry) (held : List ℕ) (known : Pending) : Type 0 where
  pub read : StandsEitherWay start held entries entry
  pub synced : StandsEitherWay start known.synced entries entry
  pub in_doubt : All (λ range. (length (before_gate entries) ≤ range.0) × (range.0 + range.1 ≤ file_size entries)) known.dirty

-- this holds of the disk, where it is told what a read gives
abbrev pub Holds : {D : Type 0} → (D → Option (List ℕ)) → (D → ℕ) → (D → ℕ → Option Pending) → (List ℕ → Pending → Type 0) → D → Type 0
Holds content moment pending P disk = IfSome (content disk) (λ held. IsSomeAnd (pending disk (moment disk)) (P held))

-- every image since the old disk has P, where it is told what a read gives
abbrev pub Leaves : {D : Type 0} → (D → Option (List ℕ)) → (D → ℕ) → (D → ℕ → Option Pending) → D → D → (List ℕ → Type 0) → Type 0
Leaves content moment pending old new P = IfSome (content old) (λ _. LeavesOnly moment pending old new P)

-- a read gives so many bytes at least, where it is told what it gives
abbrev pub HasBytesUpTo : Option (List ℕ) → ℕ → Type 0
HasBytesUpTo content size = ForSome content (λ held. size ≤ length held)

-- what a read gives is told still
abbrev pub IsStillTold : Option (List ℕ) → Option (List ℕ) → Type 0
IsStillTold before after = IfSome before (λ _. IsSome after)
