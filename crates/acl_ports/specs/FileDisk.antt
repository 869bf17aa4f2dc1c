use Rattle.std.specs.Prelude.{ℕ, Bool, Result, is_err, if◌then◌else◌}
use Rattle.acl_ports.specs.Faults.{next_count}

-- whether it could be opened, how many calls were made, and how many of them failed
pub record FileState : Type 0 where
  pub is_open : Bool
  pub made : ℕ
  pub faults : ℕ

-- one call more, and one fault more where it failed
abbrev pub after_answer : {T E : Type 0} → FileState → Result T E → FileState
after_answer disk result =
    record disk { made = next_count disk.made; faults = if is_err result then next_count disk.faults else disk.faults }
