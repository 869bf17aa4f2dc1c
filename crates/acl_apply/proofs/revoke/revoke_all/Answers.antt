use Rattle.std.proofs.Common.{◌∙◌, sym}
use Rattle.std.proofs.lemmas.Result.{IfOk-weaker, err_from_is_err_and}
use Rattle.acl_rows.specs.Tables.{state_of}
use Rattle.acl_apply.proofs.Creating.{on_ok_always}
use Rattle.acl_apply.proofs.Refusing.{fault_of_part}
use Rattle.acl_apply.proofs.Revoking.{all_closed, all_missing_fault, all_revoked}
use Rattle.acl_apply.proofs.revoke.revoke_all.Goals as goal

pub returns-in_err-all_stand-clause-err : goal.returns-in_err-all_stand-clause-err
returns-in_err-all_stand-clause-err c =
    let p = err_from_is_err_and c.from_residual.result c.from_residual.ensures.1 in
    rw (p.1, p.2)
    (fault_of_part _ _ (λ e some. sym (all_missing_fault (state_of c.args.before.now) c.args.accounts.now) ∙ some) c.in_err-all_stand.field-0.0 c.in_err-all_stand.ensures.err)

pub rows_without-requires : goal.rows_without-requires
rows_without-requires c = rw c.deref.ensures.value (all_closed c.args.accounts.now (state_of c.args.before.now) c.in-Ok.gone.items c.in-Ok.ensures)

pub returns-clause-fault : goal.returns-clause-fault
returns-clause-fault c =
    on_ok_always c.rows_without.result _ (sym (all_missing_fault (state_of c.args.before.now) c.args.accounts.now) ∙ c.in_ok-all_stand.ensures.ok)

pub returns-clause-changed : goal.returns-clause-changed
returns-clause-changed c =
    IfOk-weaker c.rows_without.result _ _
    (λ rows. all_revoked c.args.accounts.now (state_of c.args.before.now) c.in-Ok.gone.items c.in-Ok.ensures (state_of rows))
    (rw c.deref.ensures.value at c.rows_without.ensures.ok)
