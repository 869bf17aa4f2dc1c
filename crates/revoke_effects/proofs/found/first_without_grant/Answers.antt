use Rattle.std.proofs.Common.{◌≤◌, ◌<◌, Some, None, length, take_all, arith}
use Rattle.acl_rows.specs.Tables.{state_of}
use Rattle.revoke_effects.proofs.Firsts.{first_at, grant_fault, none_more}
use Rattle.revoke_effects.proofs.Listing.{none_of_none}
use Rattle.revoke_effects.specs.Found.{FindsNothing}
use Rattle.revoke_effects.proofs.found.first_without_grant.Goals as goal

pub loop-account-init : goal.loop-account-init
loop-account-init c = none_of_none (FindsNothing (state_of c.args.before.now) c.args.privileges.now c.args.target.now)

pub loop-account-preserved : goal.loop-account-preserved
loop-account-preserved c =
    let within : c.loop-account.account-index < length c.args.accounts.now = omega arith in
    none_more (FindsNothing (state_of c.args.before.now) c.args.privileges.now c.args.target.now) c.args.accounts.now c.loop-account.account-index c.account-item.result
    within c.account-item.is c.loop-account.invariant (rw c.if-branch.false at c.in_ok-finds_nothing.ensures)

pub returns-then-branch-clause-first : goal.returns-then-branch-clause-first
returns-then-branch-clause-first c =
    let within : c.loop-account.account-index < length c.args.accounts.now = omega arith in
    first_at (FindsNothing (state_of c.args.before.now) c.args.privileges.now c.args.target.now) c.args.accounts.now c.loop-account.account-index c.account-item.result
    within c.account-item.is c.loop-account.invariant (rw c.if-branch.true at c.in_ok-finds_nothing.ensures)

pub returns-then-branch-clause-fault : goal.returns-then-branch-clause-fault
returns-then-branch-clause-fault c = λ there.
    let within : c.loop-account.account-index < length c.args.accounts.now = omega arith in
    grant_fault (state_of c.args.before.now) c.args.privileges.now c.args.accounts.now there c.args.target.now (Some c.account-item.result)
    (first_at (FindsNothing (state_of c.args.before.now) c.args.privileges.now c.args.target.now) c.args.accounts.now c.loop-account.account-index c.account-item.result
    within c.account-item.is c.loop-account.invariant (rw c.if-branch.true at c.in_ok-finds_nothing.ensures))

pub returns-clause-fault : goal.returns-clause-fault
returns-clause-fault c = λ there.
    let past : length c.args.accounts.now ≤ c.loop-account.account-index = omega arith in
    grant_fault (state_of c.args.before.now) c.args.privileges.now c.args.accounts.now there c.args.target.now None
    (rw take_all at c.loop-account.invariant)
