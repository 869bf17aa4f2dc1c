-- Where other bytes are no file of a journal.
use Rattle.std.specs.Prelude.{◌≡◌, ◌≢◌, ◌⊎◌, ◌<◌, ◌≤◌, ℕ, List, [], ◌∷◌, ◌++◌, length, take}
use Rattle.acl_model.specs.State.{State}
use Rattle.acl_stmt.specs.declared.entry.Entry.{Entry}
use Rattle.journal_bytes.specs.Files.{IsHistory, MayFollow, before_gate, header, record_bytes}

-- too short for a header and a gate, or with other bytes in front
abbrev pub IsForeign : List ℕ → Type 0
IsForeign file = (length file < 9) ⊎ (take 8 file ≢ header)

-- these bytes begin with the record of no entry that may come after these
abbrev pub NoneFollows : State → List Entry → List ℕ → Type 0
NoneFollows start entries bytes = (entry : Entry) (behind : List ℕ) → MayFollow start entries entry → bytes ≢ record_bytes entry ++ behind

-- no gate is there, or an open one without such a record
abbrev pub IsBad : State → List Entry → List ℕ → Type 0
IsBad start entries [] = Unit {0}
IsBad start entries (gate ∷ rest) = (gate ≡ 1) × NoneFollows start entries (gate ∷ rest)

-- the file is damaged at this offset, that of the first gate which is bad
pub record IsDamagedAt (start : State) (file : List ℕ) (offset : ℕ) : Type 0 where
  pub long : 9 ≤ length file
  pub entries : List Entry
  pub history : IsHistory start entries
  pub bad : List ℕ
  pub bytes : file ≡ before_gate entries ++ bad
  pub place : offset ≡ length (before_gate entries)
  pub fault : IsBad start entries bad
