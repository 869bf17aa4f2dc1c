use Rattle.std.proofs.Common.{◌≡◌, take}
use Rattle.account_edits.specs.Created.{account_rows}
use Rattle.account_edits.proofs.create.account_rows.Given as goal

abbrev pub invariant-loop-pair : goal.invariant-loop-pair
invariant-loop-pair l = l.rows.items ≡ account_rows (take l.pair-index l.accounts)
