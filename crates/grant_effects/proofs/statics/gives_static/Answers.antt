use Rattle.std.proofs.Common.{sym}
use Rattle.acl_rows.specs.Tables.{state_of}
use Rattle.grant_effects.proofs.Covering.{given_elsewhere, given_unless_restricted, not_given}
use Rattle.grant_effects.proofs.statics.gives_static.Goals as goal

pub returns-then-not-grants_number : goal.returns-then-not-grants_number
returns-then-not-grants_number c = not_given (state_of c.args.before.now) c.args.grant.now.privileges.now c.args.grant.now.target.now c.args.grant.now.with_grant_option c.args.account.now c.args.number (sym c.if-not-grants_number.ensures.granted)

pub returns-in_default : goal.returns-in_default
returns-in_default c =
    given_elsewhere (state_of c.args.before.now) c.args.grant.now.privileges.now c.args.grant.now.target.now c.args.grant.now.with_grant_option c.args.account.now c.args.number c.in_default.not-Schema (sym c.if-not-grants_number.ensures.granted)

pub returns : goal.returns
returns c =
    given_unless_restricted (state_of c.args.before.now) c.args.grant.now.privileges.now c.args.grant.now.target.now c.args.grant.now.with_grant_option c.args.account.now c.args.number c.in-Schema.schema c.is_held.result c.in_ok-copy.field-0 c.in_ok-copy-2.field-0
    c.in-Schema.is (sym c.if-not-grants_number.ensures.granted) c.is_held.ensures c.in_ok-copy.ensures c.in_ok-copy-2.ensures
