-- The entries of a journal, read one by one.
use Rattle.std.specs.Prelude.{◌≡◌, ◌⊎◌, ◌+◌, ◌≤◌, ℕ, List, [], ◌∷◌, ◌++◌, length, drop, Option, IfSome}
use Rattle.acl_model.specs.Acceptance.{IsAccepted}
use Rattle.acl_model.specs.Effects.{after}
use Rattle.acl_model.specs.State.{State}
use Rattle.acl_stmt.specs.declared.entry.Entry.{Entry}
use Rattle.entry_bytes.specs.Spelling.{HasBytes, bytes_of}
use Rattle.journal_bytes.specs.Files.{most_bytes, record_bytes}

-- the entry with these bytes was carried out and put behind the others
pub record TakesEntry (payload : List ℕ) (before now : State) (entries more : List Entry) : Type 0 where
  pub entry : Entry
  pub written : HasBytes entry
  pub bytes : payload ≡ bytes_of entry
  pub accepted : IsAccepted before entry
  pub state : now ≡ after entry before
  pub list : more ≡ entries ++ entry ∷ []

-- these are the bytes of no entry that is accepted
abbrev pub NoneIsAccepted : List ℕ → State → Type 0
NoneIsAccepted payload state = (entry : Entry) → HasBytes entry → payload ≡ bytes_of entry → IsAccepted state entry → ⊥

-- the next entry was read from its record at the gate, and the next gate is there
pub record GoesOn (content : Option (List ℕ)) (gate next : ℕ) (before now : State) (entries more : List Entry) : Type 0 where
  pub payload : List ℕ
  pub takes : TakesEntry payload before now entries more
  pub place : next ≡ gate + 5 + length payload
  pub within : gate + 6 + length payload ≤ most_bytes
  pub told : IfSome content (λ held. (behind : List ℕ) × (drop gate held ≡ record_bytes takes.entry ++ behind))

-- at the gate there is none, or an open one without the record of an entry that is accepted and fits the file
abbrev pub HasNoRecord : List ℕ → ℕ → State → Type 0
HasNoRecord bytes gate state = (bytes ≡ [])
    ⊎ ((behind : List ℕ) × (bytes ≡ 1 ∷ behind)
    × ((entry : Entry) (more : List ℕ) → HasBytes entry → IsAccepted state entry → gate + 6 + length (bytes_of entry) ≤ most_bytes
    → bytes ≡ record_bytes entry ++ more → ⊥))

-- no gate, or an open one
abbrev pub IsOpenOrNone : List ℕ → Type 0
IsOpenOrNone bytes = (bytes ≡ []) ⊎ ((behind : List ℕ) × (bytes ≡ 1 ∷ behind))
