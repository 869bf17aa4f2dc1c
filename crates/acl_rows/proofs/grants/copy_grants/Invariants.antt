use Rattle.std.proofs.Common.{◌≡◌, take}
use Rattle.acl_rows.proofs.grants.copy_grants.Given as goal

abbrev pub invariant-loop-row : goal.invariant-loop-row
invariant-loop-row l = l.made.items ≡ take l.row-index l.grants
