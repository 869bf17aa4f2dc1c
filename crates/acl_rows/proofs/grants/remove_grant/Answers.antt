use Rattle.std.proofs.Common.{not, rules}
use Rattle.std.proofs.lemmas.Fn.{filter_same}
use Rattle.acl_model.specs.Rows.{same_row}
use Rattle.acl_rows.proofs.grants.remove_grant.Goals as goal

pub returns : goal.returns
returns c = filter_same _ (λ standing. not (same_row c.args.row.now standing)) _ (λ x b f k. search rules) _ _ c.retain.ensures.filtered
