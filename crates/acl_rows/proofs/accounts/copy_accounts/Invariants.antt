use Rattle.std.proofs.Common.{◌≡◌, take}
use Rattle.acl_rows.proofs.accounts.copy_accounts.Given as goal

abbrev pub invariant-loop-pair : goal.invariant-loop-pair
invariant-loop-pair l = l.made.items ≡ take l.pair-index l.accounts
