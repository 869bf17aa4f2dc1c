use Rattle.std.proofs.Common.{◌≡◌, take}
use Rattle.acl_model.specs.Rows.{same_row}
use Rattle.acl_rows.specs.Uses.{distinct, object_of}
use Rattle.acl_rows.proofs.uses.objects.Given as goal

abbrev pub invariant-loop-row : goal.invariant-loop-row
invariant-loop-row l = l.seen.items ≡ distinct same_row object_of (take l.row-index l.grants)
