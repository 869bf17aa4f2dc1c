use Rattle.std.proofs.Common.{◌≡◌, take}
use Rattle.row_tables.specs.Tables.{state_of}
use Rattle.account_edits.specs.Created.{new_accounts}
use Rattle.account_edits.proofs.create.new_accounts.Given as goal

abbrev pub invariant-loop-pair : goal.invariant-loop-pair
invariant-loop-pair l = l.made.items ≡ new_accounts (state_of l.rows) l.options (take l.pair-index l.accounts)
