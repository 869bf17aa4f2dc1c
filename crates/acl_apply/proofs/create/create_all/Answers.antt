use Rattle.std.proofs.Common.{◌∙◌, ◌<◌, ap, length, arith}
use Rattle.std.proofs.lemmas.Result.{err_from_is_err_and}
use Rattle.acl_rows.specs.Tables.{state_of}
use Rattle.acl_apply.proofs.Creating.{created_crowd, created_none, created_step}
use Rattle.acl_apply.specs.Created.{with_account}
use Rattle.acl_apply.proofs.create.create_all.Goals as goal

pub loop-pair-init : goal.loop-pair-init
loop-pair-init c = ap state_of c.in-Ok.ensures ∙ created_none (state_of c.args.before.now) c.args.if_not_exists c.args.options.now

pub loop-pair-preserved : goal.loop-pair-preserved
loop-pair-preserved c =
    let within : c.loop-pair.pair-index < length c.args.accounts.now = omega arith in
    created_step (state_of c.args.before.now) c.args.if_not_exists c.args.options.now (state_of c.loop-pair.rows) (state_of c.create.new.rows) c.args.accounts.now c.loop-pair.pair-index c.pair-item.result within c.pair-item.is
    (c.in_ok-create.ensures.ok ∙ ap (λ v. with_account c.pair-item.result.0 v (state_of c.loop-pair.rows)) c.new_data.ensures) c.loop-pair.invariant

pub returns-in_err-create-clause-err : goal.returns-in_err-create-clause-err
returns-in_err-create-clause-err c =
    let within : c.loop-pair.pair-index < length c.args.accounts.now = omega arith in
    let p = err_from_is_err_and c.from_residual.result c.from_residual.ensures.1 in
    rw (p.1, p.2)
    (created_crowd (state_of c.args.before.now) c.args.if_not_exists c.args.options.now (state_of c.loop-pair.rows) c.args.accounts.now c.loop-pair.pair-index c.pair-item.result within c.pair-item.is
    c.loop-pair.invariant c.requires c.in_err-create.field-0.0 c.in_err-create.ensures.err)
