use Rattle.std.proofs.Common.{◌&&◌}
use Rattle.acl_model.specs.Rows.{same_row}
use Rattle.acl_rows.specs.Tables.{state_of}
use Rattle.grant_effects.proofs.Adding.{none_numbered, one_numbered}
use Rattle.grant_effects.proofs.Covering.{statics_done}
use Rattle.grant_effects.specs.Given.{row_at, static_given}
use Rattle.grant_effects.proofs.statics.add_static_rows.Goals as goal

pub loop-number-init : goal.loop-number-init
loop-number-init c = none_numbered _ _

pub loop-number-preserved : goal.loop-number-preserved
loop-number-preserved c =
    let target = c.args.grant.now.target.now in
    one_numbered (λ row m. static_given (state_of c.args.before.now) c.args.grant.now.privileges.now target c.args.grant.now.with_grant_option (row_at target c.args.account.now m) && same_row row (row_at target c.args.account.now m))
    c.loop-number.number c.loop-number.invariant c.in_ok-add_static_row.ensures

pub returns : goal.returns
returns c =
    statics_done (state_of c.args.before.now) c.args.grant.now.privileges.now c.args.grant.now.target.now c.args.grant.now.with_grant_option c.args.account.now
    c.loop-number.number c.loop-number-test.false c.loop-number.auto.number-end c.loop-number.invariant
