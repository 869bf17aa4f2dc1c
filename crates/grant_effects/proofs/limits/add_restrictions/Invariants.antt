use Rattle.std.proofs.Common.{◌&&◌, take}
use Rattle.std.specs.List.{list_any}
use Rattle.acl_names.specs.AuthId.{same_auth}
use Rattle.acl_model.specs.Rows.{holder}
use Rattle.acl_rows.specs.Tables.{state_of}
use Rattle.grant_effects.specs.Given.{limit_gives}
use Rattle.grant_effects.specs.Lists.{Adds}
use Rattle.grant_effects.proofs.limits.add_restrictions.Given as goal

abbrev pub invariant-loop-limit : goal.invariant-loop-limit
invariant-loop-limit l =
    Adds (λ row. list_any (λ limit. same_auth (holder row) l.account && limit_gives (state_of l.before) l.grant.privileges.now l.grant.target.now l.grant.with_grant_option row limit) (take l.limit-index l.limits)) l.initial.rows.items l.rows.items
