-- What a journal stands for, on its disk and in every image that a crash may leave.
use Rattle.std.specs.Prelude.{◌≡◌, ◌+◌, ◌<◌, ◌^◌, ℕ, Bool, false, true, List, [], ◌∷◌, ◌++◌, length, Option}
use Rattle.acl_model.specs.State.{State}
use Rattle.acl_ports.specs.Crash.{Pending}
use Rattle.acl_stmt.specs.declared.entry.Entry.{Entry}
use Rattle.entry_bytes.specs.Spelling.{HasBytes, bytes_of}
use Rattle.journal_bytes.specs.Files.{MayFollow, file_size, payload_bytes}
use Rattle.journal_disk.specs.Held.{Holds, HoldsEither, HoldsList}
use Rattle.acl_journal.specs.declared.journal.Journal.{Journal}
use Rattle.acl_journal.specs.declared.prepared.Prepared.{Prepared}

abbrev pub disk_of : {D : Type 0} → Journal D → D
disk_of journal = journal.disk

abbrev pub is_settled : {D : Type 0} → Journal D → Bool
is_settled journal = journal.settled

-- how many bytes the file has, up to and with its last gate
abbrev pub size_of : {D : Type 0} → Journal D → ℕ
size_of journal = journal.gate.offset + 1

-- and with the entry
abbrev pub size_after : {D : Type 0} → Journal D → Prepared → ℕ
size_after journal prepared = size_of journal + length prepared.bytes.items

-- The bytes are those of the entry's record behind its gate, and a gate that is not open. Where four bytes can't tell how
-- long the payload is, the limit on the file does not let it in.
pub record IsPrepared (prepared : Prepared) (entry : Entry) : Type 0 where
  pub written : HasBytes entry
  pub size : length prepared.bytes.items ≡ 5 + length (bytes_of entry)
  pub bytes : length (bytes_of entry) < 2 ^ 32 → prepared.bytes.items ≡ payload_bytes entry ++ 0 ∷ []

-- the journal is settled, and its disk stands for the list
pub record IsSettledFor {D : Type 0} (content : D → Option (List ℕ)) (moment : D → ℕ) (pending : D → ℕ → Option Pending) (start : State) (journal : Journal D) (entries : List Entry) : Type 0 where
  pub settled : is_settled journal ≡ true
  pub size : size_of journal ≡ file_size entries
  pub holds : Holds content moment pending (HoldsList start entries) (disk_of journal)

-- the journal is unsettled, and its disk stands for the list or for the list with the entry
pub record IsUnsettledFor {D : Type 0} (content : D → Option (List ℕ)) (moment : D → ℕ) (pending : D → ℕ → Option Pending) (start : State) (journal : Journal D) (entries : List Entry) (entry : Entry) : Type 0 where
  pub settled : is_settled journal ≡ false
  pub size : size_of journal ≡ file_size entries
  pub holds : Holds content moment pending (HoldsEither start entries entry) (disk_of journal)

-- the journal is settled for the list, and what was prepared is the record of an entry that may follow
pub record Appends {D : Type 0} (content : D → Option (List ℕ)) (moment : D → ℕ) (pending : D → ℕ → Option Pending) (start : State) (journal : Journal D) (entries : List Entry) (prepared : Prepared) (entry : Entry) : Type 0 where
  pub over : IsSettledFor content moment pending start journal entries
  pub follows : MayFollow start entries entry
  pub prepared_from : IsPrepared prepared entry
