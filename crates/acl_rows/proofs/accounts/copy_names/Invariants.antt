use Rattle.std.proofs.Common.{◌≡◌, take}
use Rattle.acl_rows.specs.Tables.{names_of}
use Rattle.acl_rows.proofs.accounts.copy_names.Given as goal

abbrev pub invariant-loop-pair : goal.invariant-loop-pair
invariant-loop-pair l = l.names.items ≡ names_of (take l.pair-index l.accounts)
