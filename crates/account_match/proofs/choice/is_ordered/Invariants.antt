use Rattle.std.proofs.Common.{ℕ, ◌<◌, ◌+◌, get_or}
use Rattle.account_match.specs.Choice.{Precedes}
use Rattle.account_match.specs.declared.listed.Listed.{Listed}
use Rattle.account_match.proofs.choice.is_ordered.Given as goal

abbrev pub invariant-loop-next : goal.invariant-loop-next
invariant-loop-next l = (k : ℕ) (d : Listed) → k + 1 < l.next → Precedes (get_or l.accounts k d) (get_or l.accounts (k + 1) d)
