use Rattle.std.proofs.Common.{◌≢◌, ℕ, ◌<◌}
use Rattle.std.specs.Str.{str_to_ascii_uppercase}
use Rattle.priv_sets.specs.PlainNames.{plain_name}
use Rattle.priv_sets.proofs.plain.Plain.by_name.Given as goal

abbrev pub invariant-loop-number : goal.invariant-loop-number
invariant-loop-number l = (p : ℕ) → p < l.number → str_to_ascii_uppercase l.words ≢ plain_name p
