use Rattle.std.proofs.Common.{◌∙◌}
use Rattle.std.proofs.lemmas.Result.{err_from_is_err_and, on_ok_weaker}
use Rattle.acl_rows.specs.Tables.{state_of}
use Rattle.acl_apply.proofs.Dropping.{fault_if_all, fault_if_exists, fault_if_gone, none_if_all, none_if_exists}
use Rattle.acl_apply.proofs.Refusing.{fault_of_part, if_err_weaker}
use Rattle.acl_apply.proofs.drops.may_drop.Goals as goal

pub returns-then-if_exists-clause-ok : goal.returns-then-if_exists-clause-ok
returns-then-if_exists-clause-ok c =
    on_ok_weaker c.none_mandatory.result (none_if_exists (state_of c.args.before.now) c.args.if_exists c.args.accounts.now c.if-if_exists.true) c.none_mandatory.ensures.ok

pub returns-then-if_exists-clause-err : goal.returns-then-if_exists-clause-err
returns-then-if_exists-clause-err c =
    if_err_weaker c.none_mandatory.result _ _
    (fault_of_part _ _ (λ e some. fault_if_exists (state_of c.args.before.now) c.args.if_exists c.args.accounts.now c.if-if_exists.true ∙ some)) c.none_mandatory.ensures.err

pub returns-in_err-none_gone-clause-err : goal.returns-in_err-none_gone-clause-err
returns-in_err-none_gone-clause-err c =
    let p = err_from_is_err_and c.from_residual.result c.from_residual.ensures.1 in
    rw (p.1, p.2)
    (fault_of_part _ _ (fault_if_gone (state_of c.args.before.now) c.args.if_exists c.args.accounts.now c.if-if_exists.false) c.in_err-none_gone.field-0.0 c.in_err-none_gone.ensures.err)

pub returns-clause-ok : goal.returns-clause-ok
returns-clause-ok c =
    on_ok_weaker c.none_mandatory-2.result (none_if_all (state_of c.args.before.now) c.args.if_exists c.args.accounts.now c.if-if_exists.false c.in_ok-none_gone.ensures.ok) c.none_mandatory-2.ensures.ok

pub returns-clause-err : goal.returns-clause-err
returns-clause-err c =
    if_err_weaker c.none_mandatory-2.result _ _
    (fault_of_part _ _ (λ e some. fault_if_all (state_of c.args.before.now) c.args.if_exists c.args.accounts.now c.if-if_exists.false c.in_ok-none_gone.ensures.ok ∙ some)) c.none_mandatory-2.ensures.err
