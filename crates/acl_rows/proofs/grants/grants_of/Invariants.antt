use Rattle.std.proofs.Common.{◌≡◌, filter, take}
use Rattle.acl_rows.specs.Holders.{holds_as_grant}
use Rattle.acl_rows.proofs.grants.grants_of.Given as goal

abbrev pub invariant-loop-row : goal.invariant-loop-row
invariant-loop-row l = l.made.items ≡ filter (holds_as_grant l.account) (take l.row-index l.grants)
