-- What an error says: want of memory, or else exactly its cause.
use Rattle.std.specs.Prelude.{◌≡◌, Option, Some}
use Rattle.acl_stmt.specs.declared.refusal.Full.{Full as FullOf}
use Rattle.acl_stmt.specs.declared.refusal.Refusal.{Refusal}
use Rattle.acl_stmt.specs.declared.refusal.Refusal.TheVariants.{AccountExists, Full, Mandatory, NoMemory, NoSuchAccount, NoSuchGrant}

-- want of memory, or else a refusal that holds
abbrev pub IsCause : (Refusal → Type 0) → Refusal → Type 0
IsCause P NoMemory = Unit {0}
IsCause P refusal = P refusal

-- want of memory, or else just this fault
abbrev pub IsWantOrFault : Option Refusal → Refusal → Type 0
IsWantOrFault wanted NoMemory = Unit {0}
IsWantOrFault wanted (NoSuchAccount account) = wanted ≡ Some (NoSuchAccount account)
IsWantOrFault wanted (AccountExists account) = wanted ≡ Some (AccountExists account)
IsWantOrFault wanted (Mandatory role) = wanted ≡ Some (Mandatory role)
IsWantOrFault wanted (NoSuchGrant account) = wanted ≡ Some (NoSuchGrant account)
IsWantOrFault wanted _ = ⊥

-- want of memory, or else a limit that is exceeded
abbrev pub IsOverLimit : (FullOf → Type 0) → Refusal → Type 0
IsOverLimit P NoMemory = Unit {0}
IsOverLimit P (Full what) = P what
IsOverLimit P _ = ⊥
