-- What reading an entry answers.
use Rattle.std.specs.Prelude.{◌≡◌, ◌⊎◌, ℕ, List, Result, Ok, Err}
use Rattle.acl_stmt.specs.declared.entry.Entry.{Entry}
use Rattle.entry_bytes.specs.Faults.{IsBadAt}
use Rattle.entry_reading.specs.declared.decoding.DecodeRefusal.{DecodeRefusal}
use Rattle.entry_reading.specs.declared.decoding.DecodeRefusal.TheVariants.{BadEntry, NoMemory}

-- want of memory, or else the offset of the first fault of the bytes
abbrev pub IsDecodeRefusal : List ℕ → DecodeRefusal → Type 0
IsDecodeRefusal bytes (BadEntry offset) = IsBadAt bytes offset
IsDecodeRefusal bytes NoMemory = Unit {0}

-- this entry, unless memory was wanting
abbrev pub DecodesAs : Result Entry DecodeRefusal → Entry → Type 0
DecodesAs (Ok made) entry = made ≡ entry
DecodesAs (Err refusal) entry = refusal ≡ NoMemory

-- refused at this offset, unless memory was wanting
abbrev pub RefusesAt : Result Entry DecodeRefusal → ℕ → Type 0
RefusesAt (Ok made) offset = ⊥
RefusesAt (Err refusal) offset = (refusal ≡ BadEntry offset) ⊎ (refusal ≡ NoMemory)
