use Rattle.std.proofs.Common.{◌≡◌, take}
use Rattle.acl_model.specs.Counts.{same_pair}
use Rattle.acl_rows.specs.Uses.{distinct, pair_of}
use Rattle.acl_rows.proofs.uses.pairs.Given as goal

abbrev pub invariant-loop-row : goal.invariant-loop-row
invariant-loop-row l = l.seen.items ≡ distinct same_pair pair_of (take l.row-index l.grants)
