-- What opening a journal hands back.
use Rattle.std.specs.Prelude.{Result, Ok, Err}
use Rattle.acl_journal.specs.Journal.{disk_of}
use Rattle.acl_journal.specs.declared.opening.Opened.{Opened}
use Rattle.acl_journal.specs.declared.refusal.OpenRefusal.{OpenRefusal}

-- the disk, in the journal or beside the refusal
abbrev pub disk_in : {D : Type 0} → Result (Opened D) (OpenRefusal × D) → D
disk_in (Ok opened) = disk_of opened.journal
disk_in (Err refused) = refused.1
