use Rattle.std.proofs.Common.{◌&&◌, refl}
use Rattle.acl_names.specs.AuthId.{same_auth}
use Rattle.acl_model.specs.Rows.{holder}
use Rattle.acl_rows.specs.Tables.{state_of}
use Rattle.grant_effects.proofs.Adding.{all_listed, none_listed, one_listed}
use Rattle.grant_effects.proofs.Covering.{limits_done}
use Rattle.grant_effects.specs.Given.{limit_gives}
use Rattle.grant_effects.proofs.limits.add_restrictions.Goals as goal

pub loop-limit-init : goal.loop-limit-init
loop-limit-init c = none_listed c.args.rows.now.items (λ row limit. same_auth (holder row) c.args.account.now && limit_gives (state_of c.args.before.now) c.args.grant.now.privileges.now c.args.grant.now.target.now c.args.grant.now.with_grant_option row limit)

pub loop-limit-preserved : goal.loop-limit-preserved
loop-limit-preserved c =
    one_listed (λ row limit. same_auth (holder row) c.args.account.now && limit_gives (state_of c.args.before.now) c.args.grant.now.privileges.now c.args.grant.now.target.now c.args.grant.now.with_grant_option row limit)
    c.args.limits.now c.loop-limit.limit-index c.limit-item.result c.loop-limit-test.true c.limit-item.is c.loop-limit.invariant c.in_ok-add_limit.ensures

pub returns : goal.returns
returns c =
    limits_done (state_of c.args.before.now) c.args.limits.now c.args.grant.now.privileges.now c.args.grant.now.target.now c.args.grant.now.with_grant_option c.args.account.now
    (all_listed (λ row limit. same_auth (holder row) c.args.account.now && limit_gives (state_of c.args.before.now) c.args.grant.now.privileges.now c.args.grant.now.target.now c.args.grant.now.with_grant_option row limit)
    c.args.limits.now c.args.limits.now c.loop-limit.limit-index c.loop-limit-test.false refl c.loop-limit.invariant)
