use Rattle.std.proofs.Common.{◌∙◌, ap, subst, sym}
use Rattle.std.proofs.lemmas.Result.{err_from_is_err_and}
use Rattle.acl_model.specs.Acceptance.{limits_in_order}
use Rattle.acl_model.specs.Counts.{IsExceeded}
use Rattle.acl_model.specs.Firsts.{HasNone, IsFirst}
use Rattle.acl_model.specs.State.{State}
use Rattle.row_tables.specs.Lists.{with_rows, without_rows}
use Rattle.row_tables.specs.Tables.{state_of}
use Rattle.row_edits.specs.Causes.{IsWantOrLimit}
use Rattle.row_edits.specs.Edits.{MayBeTried, edited}
use Rattle.row_edits.proofs.Trials.{are_new, new_come, new_tried}
use Rattle.row_edits.proofs.tried.try_rows.Goals as goal

pub may_come-requires-clause-tried : goal.may_come-requires-clause-tried
may_come-requires-clause-tried c =
    rw (c.deref.ensures.value, c.deref-2.ensures.value)
    (new_tried (state_of c.args.rows.now) c.args.gone.items c.args.come.items c.requires c.keep_new.new.come.items c.keep_new.ensures)

pub may_come-requires-clause-new : goal.may_come-requires-clause-new
may_come-requires-clause-new c =
    rw c.deref-2.ensures.value
    (are_new (state_of c.args.rows.now) c.args.gone.items c.args.come.items c.requires c.keep_new.new.come.items c.keep_new.ensures)

pub returns-in_err-may_come-clause-err : goal.returns-in_err-may_come-clause-err
returns-in_err-may_come-clause-err c =
    let p = err_from_is_err_and c.from_residual.result c.from_residual.ensures.1 in
    rw (p.1, p.2)
    (subst (λ (st : State). IsWantOrLimit (IsFirst (IsExceeded st) limits_in_order) c.in_err-may_come.field-0.0)
    (new_come (state_of c.args.rows.now) c.args.gone.items c.args.come.items c.requires c.keep_new.new.come.items c.keep_new.ensures)
    (rw (c.deref.ensures.value, c.deref-2.ensures.value) at c.in_err-may_come.ensures.err))

pub edit_of-requires : goal.edit_of-requires
edit_of-requires c =
    rw c.deref-3.ensures.value
    (subst (λ (st : State). MayBeTried st c.args.gone.items c.keep_new.new.come.items) (sym c.may_come.ensures.kept)
    (new_tried (state_of c.args.rows.now) c.args.gone.items c.args.come.items c.requires c.keep_new.new.come.items c.keep_new.ensures))

pub returns-in-Ok-clause-within : goal.returns-in-Ok-clause-within
returns-in-Ok-clause-within c =
    subst (λ (st : State). HasNone (IsExceeded st) limits_in_order)
    (new_come (state_of c.args.rows.now) c.args.gone.items c.args.come.items c.requires c.keep_new.new.come.items c.keep_new.ensures)
    (rw (c.deref.ensures.value, c.deref-2.ensures.value) at c.in_ok-may_come.ensures.ok)

pub returns-in-Ok-clause-change : goal.returns-in-Ok-clause-change
returns-in-Ok-clause-change c =
    ap (edited c.in-Ok.edit) (sym c.may_come.ensures.kept) ∙ c.in-Ok.ensures.change
    ∙ ap (λ st. with_rows c.deref-3.result.now (without_rows c.args.gone.items st)) c.may_come.ensures.kept
    ∙ ap (λ list. with_rows list (without_rows c.args.gone.items (state_of c.args.rows.now))) c.deref-3.ensures.value
    ∙ new_come (state_of c.args.rows.now) c.args.gone.items c.args.come.items c.requires c.keep_new.new.come.items c.keep_new.ensures
