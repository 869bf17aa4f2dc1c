-- Why a journal is not opened.
use Rattle.std.specs.Prelude.{ℕ, List}
use Rattle.acl_model.specs.State.{State}
use Rattle.journal_bytes.specs.Damage.{IsDamagedAt, IsForeign}
use Rattle.journal_disk.specs.declared.reading.ReadFault.{ReadFault}
use Rattle.journal_disk.specs.declared.reading.ReadFault.TheVariants as fault
use Rattle.acl_journal.specs.declared.refusal.OpenRefusal.{OpenRefusal}
use Rattle.acl_journal.specs.declared.refusal.OpenRefusal.TheVariants.{Damaged, DiskFault, NoMemory, NotJournal}

-- a refusal of the file is exact; the others say nothing of its bytes
abbrev pub IsOpenRefusal : State → List ℕ → OpenRefusal → Type 0
IsOpenRefusal start file NotJournal = IsForeign file
IsOpenRefusal start file (Damaged offset) = IsDamagedAt start file offset
IsOpenRefusal start file DiskFault = Unit {0}
IsOpenRefusal start file NoMemory = Unit {0}

abbrev pub refusal_at : ReadFault → ℕ → OpenRefusal
refusal_at fault.Bad offset = Damaged offset
refusal_at fault.Disk offset = DiskFault
refusal_at fault.NoMemory offset = NoMemory

-- a refusal which says that a file is damaged is this; the others say nothing, and none says that it is foreign
abbrev pub IsRefusedAs : (ℕ → Type 0) → OpenRefusal → Type 0
IsRefusedAs damage NotJournal = ⊥
IsRefusedAs damage (Damaged offset) = damage offset
IsRefusedAs damage DiskFault = Unit {0}
IsRefusedAs damage NoMemory = Unit {0}

-- a refusal which says that a file is foreign is exact; none says that it is damaged
abbrev pub IsForeignRefusal : List ℕ → OpenRefusal → Type 0
IsForeignRefusal file NotJournal = IsForeign file
IsForeignRefusal file (Damaged offset) = ⊥
IsForeignRefusal file DiskFault = Unit {0}
IsForeignRefusal file NoMemory = Unit {0}
