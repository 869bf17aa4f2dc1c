use Rattle.std.proofs.Common.{◌≡◌, ℕ, List, take}
use Rattle.std.specs.List.{list_any}
use Rattle.acl_names.specs.Text.{text_eq}
use Rattle.priv_map.specs.Restricted.{is_restriction_on}
use Rattle.priv_map.proofs.restrictions.named_schemas.Given as goal

abbrev pub invariant-loop-row : goal.invariant-loop-row
invariant-loop-row l = (schema : List ℕ) → list_any (text_eq schema) l.schemas.items ≡ list_any (is_restriction_on l.account schema) (take l.row-index l.rows)
