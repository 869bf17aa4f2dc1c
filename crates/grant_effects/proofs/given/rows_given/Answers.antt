use Rattle.std.proofs.Common.{◌&&◌}
use Rattle.acl_names.specs.AuthId.{same_auth}
use Rattle.acl_model.specs.Rows.{holder}
use Rattle.acl_rows.specs.Tables.{state_of}
use Rattle.grant_effects.proofs.Adding.{none_from, one_listed}
use Rattle.grant_effects.proofs.Splitting.{all_given}
use Rattle.grant_effects.specs.Given.{given_of}
use Rattle.grant_effects.proofs.given.rows_given.Goals as goal

pub loop-account-init : goal.loop-account-init
loop-account-init c = none_from c.new-rows.result.items (λ row account. same_auth (holder row) account && given_of (state_of c.args.before.now) c.args.limits.now c.args.grant.now.privileges.now c.args.grant.now.target.now c.args.grant.now.with_grant_option row) c.new-rows.ensures.items

pub loop-account-preserved : goal.loop-account-preserved
loop-account-preserved c =
    one_listed (λ row account. same_auth (holder row) account && given_of (state_of c.args.before.now) c.args.limits.now c.args.grant.now.privileges.now c.args.grant.now.target.now c.args.grant.now.with_grant_option row)
    c.args.grant.now.accounts.now c.loop-account.account-index c.account-item.result c.loop-account-test.true c.account-item.is c.loop-account.invariant c.in_ok-add_rows.ensures

pub returns : goal.returns
returns c =
    all_given (state_of c.args.before.now) c.args.limits.now c.args.grant.now.privileges.now c.args.grant.now.target.now c.args.grant.now.accounts.now c.args.grant.now.with_grant_option c.loop-account.account-index c.loop-account-test.false c.loop-account.invariant
