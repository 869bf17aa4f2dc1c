use Rattle.std.proofs.Common.{◌∙◌, sym}
use Rattle.std.proofs.lemmas.Result.{IfOk-weaker, err_from_is_err_and}
use Rattle.acl_rows.specs.Tables.{state_of}
use Rattle.grant_effects.proofs.Legal.{given_level, given_names}
use Rattle.acl_apply.proofs.Creating.{on_ok_always}
use Rattle.acl_apply.proofs.Granting.{grant_closed, grant_fault, grant_ready, granted}
use Rattle.acl_apply.proofs.Refusing.{fault_of_part}
use Rattle.acl_apply.proofs.grant.grant_privileges.Goals as goal

pub returns-in_err-all_stand-clause-err : goal.returns-in_err-all_stand-clause-err
returns-in_err-all_stand-clause-err c =
    let p = err_from_is_err_and c.from_residual.result c.from_residual.ensures.1 in
    rw (p.1, p.2)
    (fault_of_part _ _ (λ e some. sym (grant_fault (state_of c.args.before.now) c.args.grant.now.privileges.now c.args.grant.now.target.now c.args.grant.now.accounts.now c.args.grant.now.with_grant_option) ∙ some)
    c.in_err-all_stand.field-0.0 c.in_err-all_stand.ensures.err)

pub rows_without-requires : goal.rows_without-requires
rows_without-requires c =
    rw c.deref.ensures.value
    (grant_closed c.args.limits.now c.args.grant.now.privileges.now c.args.grant.now.target.now c.args.grant.now.accounts.now c.args.grant.now.with_grant_option (state_of c.args.before.now)
    c.in-Ok.gone.items c.in-Ok-rows_given.come.items c.in-Ok.ensures c.in-Ok-rows_given.ensures)

pub rows_with-requires : goal.rows_with-requires
rows_with-requires c =
    rw c.deref-2.ensures.value
    (grant_ready c.args.limits.now c.args.grant.now.privileges.now c.args.grant.now.target.now c.args.grant.now.accounts.now c.args.grant.now.with_grant_option (state_of c.args.before.now)
    c.in-Ok.gone.items c.in-Ok-rows_given.come.items c.in-Ok.ensures c.in-Ok-rows_given.ensures
    (λ row given. (
      given_names c.args.limits.now c.args.grant.now.privileges.now c.args.grant.now.target.now c.args.grant.now.accounts.now c.args.grant.now.with_grant_option (state_of c.args.before.now) row
          (sym (grant_fault (state_of c.args.before.now) c.args.grant.now.privileges.now c.args.grant.now.target.now c.args.grant.now.accounts.now c.args.grant.now.with_grant_option) ∙ c.in_ok-all_stand.ensures.ok) given,
      given_level c.args.limits.now c.args.grant.now.privileges.now c.args.grant.now.target.now c.args.grant.now.accounts.now c.args.grant.now.with_grant_option (state_of c.args.before.now) row c.requires given,
    ))
    (state_of c.in_ok-rows.rows) (rw c.deref.ensures.value at c.in_ok-rows.ensures.ok))

pub returns-clause-fault : goal.returns-clause-fault
returns-clause-fault c =
    on_ok_always c.rows_with.result _
    (sym (grant_fault (state_of c.args.before.now) c.args.grant.now.privileges.now c.args.grant.now.target.now c.args.grant.now.accounts.now c.args.grant.now.with_grant_option) ∙ c.in_ok-all_stand.ensures.ok)

pub returns-clause-changed : goal.returns-clause-changed
returns-clause-changed c =
    IfOk-weaker c.rows_with.result _ _
    (λ rows. granted c.args.limits.now c.args.grant.now.privileges.now c.args.grant.now.target.now c.args.grant.now.accounts.now c.args.grant.now.with_grant_option (state_of c.args.before.now)
    c.in-Ok.gone.items c.in-Ok-rows_given.come.items c.in-Ok.ensures c.in-Ok-rows_given.ensures (state_of c.in_ok-rows.rows) (state_of rows) (rw c.deref.ensures.value at c.in_ok-rows.ensures.ok))
    (rw c.deref-2.ensures.value at c.rows_with.ensures.ok)
