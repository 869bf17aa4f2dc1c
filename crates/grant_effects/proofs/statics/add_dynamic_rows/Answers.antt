use Rattle.grant_effects.proofs.Adding.{none_numbered, nothing_added, one_numbered}
use Rattle.grant_effects.proofs.Covering.{dynamics_done, no_dynamics}
use Rattle.grant_effects.proofs.statics.add_dynamic_rows.Goals as goal

pub returns-in_default : goal.returns-in_default
returns-in_default c = nothing_added _ _ (λ row. no_dynamics c.args.grant.now.privileges.now c.args.grant.now.target.now c.args.grant.now.with_grant_option row _ c.in_default.not-Global)

pub loop-number-init : goal.loop-number-init
loop-number-init c = none_numbered _ _

pub loop-number-preserved : goal.loop-number-preserved
loop-number-preserved c = one_numbered _ c.loop-number.number c.loop-number.invariant c.in_ok-add_dynamic_row.ensures

pub returns : goal.returns
returns c = dynamics_done c.args.grant.now.privileges.now c.args.grant.now.with_grant_option c.args.account.now c.args.grant.now.target.now c.loop-number.number c.in-Global.is c.loop-number-test.false c.loop-number.auto.number-end c.loop-number.invariant
