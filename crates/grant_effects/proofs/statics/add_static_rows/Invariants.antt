use Rattle.std.proofs.Common.{◌&&◌}
use Rattle.acl_model.specs.Rows.{same_row}
use Rattle.acl_rows.specs.Tables.{state_of}
use Rattle.grant_effects.proofs.Below.{any_below}
use Rattle.grant_effects.specs.Given.{row_at, static_given}
use Rattle.grant_effects.specs.Lists.{Adds}
use Rattle.grant_effects.proofs.statics.add_static_rows.Given as goal

abbrev pub invariant-loop-number : goal.invariant-loop-number
invariant-loop-number l =
    Adds (λ row. any_below l.number (λ m. static_given (state_of l.before) l.grant.privileges.now l.grant.target.now l.grant.with_grant_option (row_at l.grant.target.now l.account m) && same_row row (row_at l.grant.target.now l.account m)))
    l.initial.rows.items l.rows.items
