use Rattle.std.proofs.Common.{◌≡◌, take}
use Rattle.acl_rows.specs.Renaming.{rows_renamed}
use Rattle.acl_rows.proofs.grants.rows_renamed.Given as goal

abbrev pub invariant-loop-row : goal.invariant-loop-row
invariant-loop-row l = l.rows.items ≡ rows_renamed l.old l.new (take l.row-index l.grants)
