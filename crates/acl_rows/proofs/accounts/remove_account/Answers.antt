use Rattle.std.proofs.Common.{not, rules}
use Rattle.std.proofs.lemmas.Fn.{filter_same}
use Rattle.acl_names.specs.AuthId.{same_auth}
use Rattle.acl_rows.proofs.accounts.remove_account.Goals as goal

pub returns : goal.returns
returns c = filter_same _ (λ pair. not (same_auth c.args.account.now pair.0)) _ (λ x b f k. search rules) _ _ c.retain.ensures.filtered
