use Rattle.std.proofs.lemmas.Result.{err_from_is_err_and}
use Rattle.acl_rows.specs.Tables.{state_of}
use Rattle.acl_apply.proofs.Revoking.{missing_cause}
use Rattle.acl_apply.proofs.revoke.may_revoke.Goals as goal

pub returns-in_err-all_stand-clause-err : goal.returns-in_err-all_stand-clause-err
returns-in_err-all_stand-clause-err c =
    let p = err_from_is_err_and c.from_residual.result c.from_residual.ensures.1 in
    rw (p.1, p.2)
    (missing_cause (state_of c.args.before.now) c.args.privileges.now c.args.target.now c.args.accounts.now c.in_err-all_stand.field-0.0 c.in_err-all_stand.ensures.err)
