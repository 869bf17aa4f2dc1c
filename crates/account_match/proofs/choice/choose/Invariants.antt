use Rattle.std.proofs.Common.{ℕ, ◌<◌, get_or}
use Rattle.account_match.specs.Choice.{Admits}
use Rattle.account_match.specs.declared.listed.Listed.{Listed}
use Rattle.account_match.proofs.choice.choose.Given as goal

abbrev pub invariant-loop-place : goal.invariant-loop-place
invariant-loop-place l = (k : ℕ) (d : Listed) → k < l.place → ¬ (Admits l.user l.client (get_or l.sorted k d))
