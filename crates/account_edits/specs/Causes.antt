-- What an error says: want of memory, or else exactly its cause.
use Rattle.std.specs.Prelude.{◌≡◌, None, Option, Some}
use Rattle.acl_model.specs.Acceptance.{limits_in_order}
use Rattle.acl_model.specs.Counts.{IsExceeded}
use Rattle.acl_model.specs.Firsts.{IsFirst}
use Rattle.acl_model.specs.State.{State}
use Rattle.acl_stmt.specs.declared.refusal.Refusal.{Refusal}
use Rattle.acl_stmt.specs.declared.refusal.Refusal.TheVariants.{AccountExists, Full, Mandatory, NoMemory, NoSuchAccount, NoSuchGrant}

-- want of memory, or else just this fault
abbrev pub IsWantOrFault : Option Refusal → Refusal → Type 0
IsWantOrFault wanted NoMemory = Unit {0}
IsWantOrFault wanted (NoSuchAccount account) = wanted ≡ Some (NoSuchAccount account)
IsWantOrFault wanted (AccountExists account) = wanted ≡ Some (AccountExists account)
IsWantOrFault wanted (Mandatory role) = wanted ≡ Some (Mandatory role)
IsWantOrFault wanted (NoSuchGrant account) = wanted ≡ Some (NoSuchGrant account)
IsWantOrFault wanted _ = ⊥

-- want of memory, just this fault, or else the first limit that is exceeded after it
abbrev pub IsFaultOrLimit : Option Refusal → State → Refusal → Type 0
IsFaultOrLimit wanted after NoMemory = Unit {0}
IsFaultOrLimit wanted after (Full what) = (wanted ≡ None) × IsFirst (IsExceeded after) limits_in_order what
IsFaultOrLimit wanted after (NoSuchAccount account) = wanted ≡ Some (NoSuchAccount account)
IsFaultOrLimit wanted after (AccountExists account) = wanted ≡ Some (AccountExists account)
IsFaultOrLimit wanted after (Mandatory role) = wanted ≡ Some (Mandatory role)
IsFaultOrLimit wanted after (NoSuchGrant account) = wanted ≡ Some (NoSuchGrant account)
IsFaultOrLimit wanted after _ = ⊥
