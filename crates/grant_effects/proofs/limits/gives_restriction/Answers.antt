use Rattle.std.proofs.Common.{sym}
use Rattle.acl_rows.specs.Tables.{state_of}
use Rattle.grant_effects.proofs.Covering.{limited_if_new, no_limit, not_limited}
use Rattle.grant_effects.proofs.limits.gives_restriction.Goals as goal

pub returns-in_default : goal.returns-in_default
returns-in_default c = no_limit (state_of c.args.before.now) c.args.grant.now.privileges.now c.args.grant.now.target.now c.args.grant.now.with_grant_option c.args.limit.now _ c.in_default.not-Global

pub returns-then-not-is_granted : goal.returns-then-not-is_granted
returns-then-not-is_granted c = not_limited (state_of c.args.before.now) c.args.grant.now.privileges.now c.args.grant.now.target.now c.args.grant.now.with_grant_option c.args.limit.now c.args.account.now c.args.number c.in-Global.is (sym c.if-not-is_granted.ensures)

pub returns : goal.returns
returns c = limited_if_new c.is_new.result (state_of c.args.before.now) c.args.grant.now.privileges.now c.args.grant.now.target.now c.args.grant.now.with_grant_option c.args.limit.now c.args.account.now c.args.number c.in-Global.is (sym c.if-not-is_granted.ensures) c.is_new.ensures
