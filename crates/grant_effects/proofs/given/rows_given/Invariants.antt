use Rattle.std.proofs.Common.{◌&&◌, [], take}
use Rattle.std.specs.List.{list_any}
use Rattle.acl_names.specs.AuthId.{same_auth}
use Rattle.acl_model.specs.Rows.{holder}
use Rattle.acl_rows.specs.Tables.{state_of}
use Rattle.grant_effects.specs.Given.{given_of}
use Rattle.grant_effects.specs.Lists.{Adds}
use Rattle.grant_effects.proofs.given.rows_given.Given as goal

abbrev pub invariant-loop-account : goal.invariant-loop-account
invariant-loop-account l =
    Adds (λ row. list_any (λ account. same_auth (holder row) account && given_of (state_of l.before) l.limits l.grant.privileges.now l.grant.target.now l.grant.with_grant_option row) (take l.account-index l.account-items)) [] l.rows.items
