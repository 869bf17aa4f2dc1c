-- The file of a journal: the header, a record for each entry, the oldest first, and a gate that is not open.
use Rattle.std.specs.Prelude.{◌≡◌, ◌≢◌, ◌+◌, ◌<◌, ◌≤◌, ℕ, List, [], ◌∷◌, ◌++◌, codes, length}
use Rattle.std.specs.List.{AllByRecursion, flat_map, sum_by}
use Rattle.accepted_lists.specs.Accepted.{AreAccepted}
use Rattle.acl_model.specs.Acceptance.{IsAccepted}
use Rattle.acl_model.specs.Effects.{state_after}
use Rattle.acl_model.specs.State.{State}
use Rattle.acl_stmt.specs.declared.entry.Entry.{Entry}
use Rattle.entry_bytes.specs.Spelling.{HasBytes, bytes_of, long_text}

-- the eight bytes in front
unfoldable pub header : List ℕ
header = codes "ACLBOOK1"

-- the length of the entry's bytes in four bytes, and these
abbrev pub payload_bytes : Entry → List ℕ
payload_bytes entry = long_text (bytes_of entry)

-- an open gate, and the payload
abbrev pub record_bytes : Entry → List ℕ
record_bytes entry = 1 ∷ payload_bytes entry

-- all that stands before the last gate
unfoldable pub before_gate : List Entry → List ℕ
before_gate entries = header ++ flat_map record_bytes entries

-- how many bytes the file has, up to and with its last gate
unfoldable pub file_size : List Entry → ℕ
file_size entries = 9 + sum_by (λ entry. 5 + length (bytes_of entry)) entries

abbrev pub most_entries : ℕ
most_entries = 65536

abbrev pub most_bytes : ℕ
most_bytes = 67108864

-- what a journal may hold: each entry has bytes and is accepted after those before it, and the limits are kept
pub record IsHistory (start : State) (entries : List Entry) : Type 0 where
  pub written : AllByRecursion HasBytes entries
  pub accepted : AreAccepted entries start
  pub few : length entries ≤ most_entries
  pub small : file_size entries ≤ most_bytes

-- the entry may come after these
pub record MayFollow (start : State) (entries : List Entry) (entry : Entry) : Type 0 where
  pub written : HasBytes entry
  pub accepted : IsAccepted (state_after entries start) entry
  pub few : length entries < most_entries
  pub small : file_size (entries ++ entry ∷ []) ≤ most_bytes

-- The file stands for the list: behind the records of its entries is a gate that is not open, 1, and what stands behind
-- that gate is not read.
pub record StandsFor (start : State) (file : List ℕ) (entries : List Entry) : Type 0 where
  pub history : IsHistory start entries
  pub gate : ℕ
  pub closed : gate ≢ 1
  pub behind : List ℕ
  pub bytes : file ≡ before_gate entries ++ gate ∷ behind

-- The file stands for the list, or for the list with the entry: the entry's record and a gate that is not open are behind
-- the last gate, whatever that one is.
pub record StandsEitherWay (start : State) (file : List ℕ) (entries : List Entry) (entry : Entry) : Type 0 where
  pub history : IsHistory start entries
  pub follows : MayFollow start entries entry
  pub gate : ℕ
  pub next_gate : ℕ
  pub closed : next_gate ≢ 1
  pub behind : List ℕ
  pub bytes : file ≡ before_gate entries ++ gate ∷ (payload_bytes entry ++ next_gate ∷ behind)
