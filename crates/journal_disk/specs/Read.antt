-- What reading the disk of a journal finds.
use Rattle.std.specs.Prelude.{◌≡◌, ◌≢◌, ◌⊎◌, ◌+◌, ◌<◌, ◌≤◌, ◌^◌, ℕ, List, [], ◌∷◌, ◌++◌, length, Option, None, Some, IfNone}
use Rattle.acl_ports.specs.Crash.{Pending}
use Rattle.acl_ports.specs.Disk.{Stays}
use Rattle.entry_bytes.specs.Faults.{NoneBegins}
use Rattle.entry_bytes.specs.Spelling.{IsNumber, long_text, number_bytes}
use Rattle.journal_bytes.specs.Files.{most_bytes}
use Rattle.journal_disk.specs.declared.reading.Front.{Front}
use Rattle.journal_disk.specs.declared.reading.Front.TheVariants.{Closed, Cut, Open}
use Rattle.journal_disk.specs.declared.reading.ReadFault.{ReadFault}
use Rattle.journal_disk.specs.declared.reading.ReadFault.TheVariants.{Bad, Disk, NoMemory}

-- Calls that write nothing and sync nothing: what a read gives is as it was, and what is pending was so at each moment.
pub record OnlyReads {D : Type 0} (content : D → Option (List ℕ)) (moment : D → ℕ) (pending : D → ℕ → Option Pending) (old new : D) : Type 0 where
  pub kept : Stays (content old) (content new)
  pub untold : IfNone (content old) (content new ≡ None)
  pub later : moment old ≤ moment new
  pub earlier : (time : ℕ) → time ≤ moment old → pending new time ≡ pending old time
  pub since : (time : ℕ) → moment old ≤ time → time ≤ moment new → pending new time ≡ pending old (moment old)

-- what bytes begin with, where a gate stands
abbrev pub BeginsAs : List ℕ → Front → Type 0
BeginsAs bytes Closed = (gate : ℕ) × (behind : List ℕ) × (gate ≢ 1) × (bytes ≡ gate ∷ behind)
BeginsAs bytes (Open size) = (behind : List ℕ) × IsNumber size × (bytes ≡ 1 ∷ (number_bytes size ++ behind))
BeginsAs bytes Cut = (bytes ≡ []) ⊎ ((behind : List ℕ) × (bytes ≡ 1 ∷ behind) × NoneBegins number_bytes IsNumber behind)

-- a payload may end before the last gate of a file within the limit, where the record begins at that offset
abbrev pub IsWithin : ℕ → List ℕ → Type 0
IsWithin at payload = at + 6 + length payload ≤ most_bytes

-- an open gate, the payload behind it, and other bytes
pub record BeginsWith (bytes : List ℕ) (at : ℕ) (payload : List ℕ) : Type 0 where
  pub behind : List ℕ
  pub is : bytes ≡ 1 ∷ (long_text payload ++ behind)
  pub short : length payload < 2 ^ 32
  pub within : IsWithin at payload

-- a gate that is not open
pub record BeginsClosed (bytes : List ℕ) : Type 0 where
  pub gate : ℕ
  pub behind : List ℕ
  pub closed : gate ≢ 1
  pub is : bytes ≡ gate ∷ behind

-- no gate, or an open one without a payload
abbrev pub BeginsBadly : List ℕ → ℕ → Type 0
BeginsBadly bytes at = (bytes ≡ [])
    ⊎ ((behind : List ℕ) × (bytes ≡ 1 ∷ behind)
    × ((payload : List ℕ) (rest : List ℕ) → length payload < 2 ^ 32 → IsWithin at payload → behind ≡ long_text payload ++ rest → ⊥))

-- a fault of the bytes is this; the others say nothing of them
abbrev pub IsReadFault : Type 0 → ReadFault → Type 0
IsReadFault bad Bad = bad
IsReadFault bad Disk = Unit {0}
IsReadFault bad NoMemory = Unit {0}
