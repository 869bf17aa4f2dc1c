use Rattle.acl_rows.specs.Tables.{state_of}
use Rattle.grant_effects.proofs.Adding.{none_numbered, one_numbered}
use Rattle.grant_effects.proofs.Covering.{limit_done}
use Rattle.grant_effects.proofs.limits.add_limit.Goals as goal

pub loop-number-init : goal.loop-number-init
loop-number-init c = none_numbered _ _

pub loop-number-preserved : goal.loop-number-preserved
loop-number-preserved c = one_numbered _ c.loop-number.number c.loop-number.invariant c.in_ok-add_restriction.ensures

pub returns : goal.returns
returns c = limit_done (state_of c.args.before.now) c.args.grant.now.privileges.now c.args.grant.now.target.now c.args.grant.now.with_grant_option c.args.limit.now c.args.account.now c.loop-number.number c.loop-number-test.false c.loop-number.auto.number-end c.loop-number.invariant
