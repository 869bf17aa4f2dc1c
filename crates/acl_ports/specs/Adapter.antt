-- The readers, writers and files of the system, of whose bytes nothing is told.
use Rattle.std.specs.Prelude.{ℕ, Bool, Result, is_err, if◌then◌else◌}
use Rattle.acl_ports.specs.Faults.{next_count}

-- whether it could be opened, and how many calls have failed
pub record AdapterState : Type 0 where
  pub is_open : Bool
  pub faults : ℕ

-- one fault more where the call failed
abbrev pub after_answer : {T E : Type 0} → AdapterState → Result T E → AdapterState
after_answer adapter result = record adapter { faults = if is_err result then next_count adapter.faults else adapter.faults }
