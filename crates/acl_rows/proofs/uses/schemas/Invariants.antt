use Rattle.std.proofs.Common.{◌≡◌, take}
use Rattle.acl_names.specs.Text.{text_eq}
use Rattle.acl_rows.specs.Uses.{distinct, schema_of}
use Rattle.acl_rows.proofs.uses.schemas.Given as goal

abbrev pub invariant-loop-row : goal.invariant-loop-row
invariant-loop-row l = l.seen.items ≡ distinct text_eq schema_of (take l.row-index l.grants)
