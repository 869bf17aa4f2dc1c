-- Faults of fields, seen from the fields before them.
use Rattle.std.proofs.Common.{◌≡◌, ℕ, List, Result, IfErr, sym, subst}
use Rattle.std.specs.Result.{IsErrAnd}
use Rattle.entry_fields.proofs.Refused.{passed_on}
use Rattle.entry_reading.specs.Faults.{IsFault}
use Rattle.entry_reading.specs.declared.fault.Fault.{Fault}
use Rattle.entry_reading.specs.declared.fault.Fault.TheVariants.{Bad, NoMemory}

-- the same bytes are left
pub deeper : (Left Other : List ℕ → Type 0) (fault : Fault) → ((bad : List ℕ) → Left bad → Other bad) → IsFault Left fault → IsFault Other fault
deeper Left Other (Bad left) leads (bad, is, many) = (bad, leads bad is, many)
deeper Left Other NoMemory leads is = tt

-- a fault that a `?` passes on
pub handed_on : {T : Type 0} (Left : List ℕ → Type 0) (r : Result T Fault) (fault : Fault) → IsErrAnd r (λ y. y ≡ fault) → IsFault Left fault → IfErr r (IsFault Left)
handed_on Left r fault is at = passed_on (IsFault Left) r is (λ y same. subst (IsFault Left) (sym same) at)
