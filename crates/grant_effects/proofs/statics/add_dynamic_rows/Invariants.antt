use Rattle.std.proofs.Common.{◌&&◌, ◌||◌}
use Rattle.acl_model.specs.Rows.{same_row}
use Rattle.acl_model.specs.Words.{names_dynamic}
use Rattle.acl_model.specs.declared.row.Row.TheVariants.{Dynamic, DynamicGrant}
use Rattle.grant_effects.proofs.Below.{any_below}
use Rattle.grant_effects.specs.Lists.{Adds}
use Rattle.grant_effects.proofs.statics.add_dynamic_rows.Given as goal

abbrev pub invariant-loop-number : goal.invariant-loop-number
invariant-loop-number l =
    Adds (λ row. any_below l.number (λ d. names_dynamic l.grant.privileges.now d && (same_row row (Dynamic l.account d) || (l.grant.with_grant_option && same_row row (DynamicGrant l.account d)))))
    l.initial.rows.items l.rows.items
