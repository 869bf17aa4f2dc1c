use Rattle.std.proofs.Common.{◌≡◌, filter, take}
use Rattle.acl_rows.specs.Holders.{names_as_grant}
use Rattle.acl_rows.proofs.grants.grants_naming.Given as goal

abbrev pub invariant-loop-row : goal.invariant-loop-row
invariant-loop-row l = l.made.items ≡ filter (names_as_grant l.account) (take l.row-index l.grants)
