-- What an error says: want of memory, or else a limit.
use Rattle.acl_stmt.specs.declared.refusal.Full.{Full as FullOf}
use Rattle.acl_stmt.specs.declared.refusal.Refusal.{Refusal}
use Rattle.acl_stmt.specs.declared.refusal.Refusal.TheVariants.{Full, NoMemory}

-- want of memory, or else a limit of which this holds
abbrev pub IsWantOrLimit : (FullOf → Type 0) → Refusal → Type 0
IsWantOrLimit P NoMemory = Unit {0}
IsWantOrLimit P (Full what) = P what
IsWantOrLimit P _ = ⊥
