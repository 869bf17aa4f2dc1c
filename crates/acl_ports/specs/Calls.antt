-- The calls of a device in memory, which are numbered from 0.
use Rattle.std.specs.Prelude.{ℕ, List, Contains, Result, is_err, if◌then◌else◌}
use Rattle.std.specs.Result.{result_unwrap_or}
use Rattle.acl_ports.specs.Faults.{next_count}

-- the numbers of the calls that are to fail, how many calls were made, and how many failed
pub record Calls : Type 0 where
  pub failing : List ℕ
  pub made : ℕ
  pub faults : ℕ

abbrev pub no_calls : List ℕ → Calls
no_calls failing = record { failing = failing; made = 0; faults = 0 }

-- the number of the next call is in the list
abbrev pub IsListed : Calls → Type 0
IsListed calls = Contains calls.failing calls.made

-- one call more, and one fault more where it failed
abbrev pub after_call : {T E : Type 0} → Calls → Result T E → Calls
after_call calls result =
    record calls { made = next_count calls.made; faults = if is_err result then next_count calls.faults else calls.faults }

-- how many bytes a call moved: none where it failed
abbrev pub count_of : {E : Type 0} → Result ℕ E → ℕ
count_of result = result_unwrap_or result 0
