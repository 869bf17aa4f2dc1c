use Rattle.acl_rows.specs.Tables.{state_of}
use Rattle.grant_effects.proofs.Splitting.{four_added}
use Rattle.grant_effects.proofs.given.add_rows.Goals as goal

pub returns : goal.returns
returns c =
    four_added c.add_restrictions.new.rows.items c.add_restrictions.result (state_of c.args.before.now) c.args.limits.now c.args.grant.now.privileges.now c.args.grant.now.target.now c.args.grant.now.with_grant_option c.args.account.now
    c.in_ok-add_static_rows.ensures c.in_ok-add_column_rows.ensures c.in_ok-add_dynamic_rows.ensures c.add_restrictions.ensures
