use Rattle.std.proofs.Common.{◌≡◌, ◌∙◌, ◌<◌, Some, length, ap, sym, arith}
use Rattle.std.specs.Option.{option_map}
use Rattle.acl_names.specs.declared.auth.AuthId.{AuthId}
use Rattle.acl_stmt.specs.declared.refusal.Refusal.TheVariants.{Mandatory}
use Rattle.std.proofs.lemmas.Result.{err_from_is_err_and}
use Rattle.acl_model.specs.Refusals.{no_renaming}
use Rattle.acl_model.specs.State.{stands}
use Rattle.acl_rows.specs.Tables.{state_of}
use Rattle.acl_apply.proofs.Refusing.{fault_of_part}
use Rattle.acl_apply.proofs.Renaming.{renamed_none, renames_end, renames_fault, renames_step}
use Rattle.acl_apply.proofs.rename.rename_users.Goals as goal

pub loop-pair-init : goal.loop-pair-init
loop-pair-init c =
    let same : state_of c.in-Ok.rows ≡ state_of c.args.before.now = ap state_of c.in-Ok.ensures in
    rw same (renamed_none (state_of c.args.before.now), λ i. no_renaming (stands (state_of c.args.before.now)) c.args.pairs.now)

pub loop-pair-preserved : goal.loop-pair-preserved
loop-pair-preserved c =
    let within : c.loop-pair.pair-index < length c.args.pairs.now = omega arith in
    renames_step (state_of c.args.before.now) (state_of c.loop-pair.rows) (state_of c.rename_user.new.rows) c.args.pairs.now c.loop-pair.pair-index c.pair-item.result within c.pair-item.is
    c.in_ok-rename_user.ensures.ok c.in_ok-rename_user.ensures.fault c.loop-pair.invariant

pub returns-in_err-rename_user-clause-err : goal.returns-in_err-rename_user-clause-err
returns-in_err-rename_user-clause-err c =
    let within : c.loop-pair.pair-index < length c.args.pairs.now = omega arith in
    let p = err_from_is_err_and c.from_residual.result c.from_residual.ensures.1 in
    rw (p.1, p.2)
    (fault_of_part _ _ (renames_fault (state_of c.args.before.now) (state_of c.loop-pair.rows) c.args.pairs.now c.loop-pair.pair-index c.pair-item.result within c.pair-item.is c.loop-pair.invariant.1)
    c.in_err-rename_user.field-0.0 c.in_err-rename_user.ensures.err)

pub returns-in_default-first_mandatory-clause-fault : goal.returns-in_default-first_mandatory-clause-fault
returns-in_default-first_mandatory-clause-fault c =
    let all : c.loop-pair.pair-index ≡ length c.args.pairs.now = omega arith in
    renames_end (state_of c.args.before.now) (state_of c.loop-pair.rows) c.args.pairs.now c.loop-pair.pair-index all c.loop-pair.invariant.1
    ∙ ap (option_map (λ a. Mandatory a)) (sym c.in_default-first_mandatory.ensures)

pub returns-in-Ok-copy-clause-err : goal.returns-in-Ok-copy-clause-err
returns-in-Ok-copy-clause-err c =
    let all : c.loop-pair.pair-index ≡ length c.args.pairs.now = omega arith in
    renames_end (state_of c.args.before.now) (state_of c.loop-pair.rows) c.args.pairs.now c.loop-pair.pair-index all c.loop-pair.invariant.1
    ∙ ap (option_map (λ a. Mandatory a)) (sym c.in-Some.ensures) ∙ ap (λ (a : AuthId). Some (Mandatory a)) (sym c.in-Ok-copy.ensures)
