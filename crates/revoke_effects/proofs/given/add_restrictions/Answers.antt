use Rattle.std.proofs.Common.{◌∙◌, ◌<◌, ◌++◌, ap, length, arith}
use Rattle.std.specs.Option.{option_to_list}
use Rattle.revoke_effects.proofs.Giving.{one_more}
use Rattle.revoke_effects.proofs.given.add_restrictions.Goals as goal

pub loop-row-preserved : goal.loop-row-preserved
loop-row-preserved c =
    let within : c.loop-row.row-index < length c.args.held.now = omega arith in
    one_more c.args.privileges.now c.args.schema.now c.args.given.now.items c.loop-row.given.items c.add_row.new.rows.items c.args.held.now c.loop-row.row-index c.row-item.result
    within c.row-item.is c.loop-row.invariant (c.in_ok-add_row.ensures ∙ ap (λ o. c.loop-row.given.items ++ option_to_list o) c.in_ok-restriction_of.ensures)
