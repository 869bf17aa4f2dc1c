use Rattle.std.proofs.Common.{◌&&◌}
use Rattle.acl_model.specs.Rows.{same_row}
use Rattle.acl_model.specs.declared.row.Row.TheVariants.{Restriction}
use Rattle.acl_rows.specs.Tables.{state_of}
use Rattle.grant_effects.proofs.Below.{any_below}
use Rattle.grant_effects.specs.Given.{limit_gives}
use Rattle.grant_effects.specs.Lists.{Adds}
use Rattle.grant_effects.proofs.limits.add_limit.Given as goal

abbrev pub invariant-loop-number : goal.invariant-loop-number
invariant-loop-number l =
    Adds (λ row. any_below l.number (λ m. limit_gives (state_of l.before) l.grant.privileges.now l.grant.target.now l.grant.with_grant_option (Restriction l.account m l.limit.schema) l.limit && same_row row (Restriction l.account m l.limit.schema)))
    l.initial.rows.items l.rows.items
