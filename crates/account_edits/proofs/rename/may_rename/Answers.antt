use Rattle.std.proofs.Common.{◌≡◌, ◌∙◌, [], ap, subst, sym, None}
use Rattle.std.proofs.lemmas.Result.{err_from_is_err_and}
use Rattle.acl_model.specs.Acceptance.{limits_in_order}
use Rattle.acl_model.specs.Counts.{IsExceeded}
use Rattle.acl_model.specs.Effects.{changed}
use Rattle.acl_model.specs.Firsts.{IsFirst}
use Rattle.acl_model.specs.Refusals.{first_fault, no_renaming}
use Rattle.acl_model.specs.State.{State, stands}
use Rattle.row_tables.specs.Tables.{state_of}
use Rattle.acl_stmt.specs.declared.statement.Statement.TheVariants.{RenameUser}
use Rattle.account_edits.proofs.Renaming.{all_done, fault_by, told_of}
use Rattle.account_edits.proofs.rename.may_rename.Goals as goal

pub returns-in_err-none_mandatory-clause-err : goal.returns-in_err-none_mandatory-clause-err
returns-in_err-none_mandatory-clause-err c =
    let p = err_from_is_err_and c.from_residual-in_err-none_mandatory.result c.from_residual-in_err-none_mandatory.ensures.1 in
    let same = c.undo.ensures (state_of c.reserve_names.new.rows) c.try_pairs-tried.ensures.state c.try_pairs-tried.ensures.way ∙ c.reserve_names.ensures.kept in
    let none = subst (λ (st : State). no_renaming (stands st) c.args.pairs.now ≡ None) c.reserve_names.ensures.kept c.in_ok-tried.ensures.ok in
    rw (p.1, p.2)
    (fault_by (first_fault (state_of c.args.rows.now) (RenameUser c.args.pairs.now)) _ (changed [] (RenameUser c.args.pairs.now) (state_of c.args.rows.now)) c.in_err-none_mandatory.field-0.0
    (told_of c.args.pairs.now (state_of c.args.rows.now) (state_of c.undo.new.rows) same none) c.in_err-none_mandatory.ensures.err)

pub returns-in-Ok-within-clause-fault : goal.returns-in-Ok-within-clause-fault
returns-in-Ok-within-clause-fault c =
    let same = c.undo.ensures (state_of c.reserve_names.new.rows) c.try_pairs-tried.ensures.state c.try_pairs-tried.ensures.way ∙ c.reserve_names.ensures.kept in
    let none = subst (λ (st : State). no_renaming (stands st) c.args.pairs.now ≡ None) c.reserve_names.ensures.kept c.in_ok-tried.ensures.ok in
    told_of c.args.pairs.now (state_of c.args.rows.now) (state_of c.undo.new.rows) same none ∙ c.in_ok-none_mandatory.ensures.ok

pub returns-in-Err-clause-err : goal.returns-in-Err-clause-err
returns-in-Err-clause-err c =
    let same = c.undo.ensures (state_of c.reserve_names.new.rows) c.try_pairs-tried.ensures.state c.try_pairs-tried.ensures.way ∙ c.reserve_names.ensures.kept in
    let none = subst (λ (st : State). no_renaming (stands st) c.args.pairs.now ≡ None) c.reserve_names.ensures.kept c.in_ok-tried.ensures.ok in (
      told_of c.args.pairs.now (state_of c.args.rows.now) (state_of c.undo.new.rows) same none ∙ c.in_ok-none_mandatory.ensures.ok,
      subst (λ (st : State). IsFirst (IsExceeded st) limits_in_order c.in-Err.what)
          (all_done c.args.pairs.now c.try_pairs-tried.new.done (state_of c.reserve_names.new.rows) (state_of c.args.rows.now) (state_of c.try_pairs-tried.new.rows) c.in_ok-tried.ensures.all c.try_pairs-tried.ensures.state c.reserve_names.ensures.kept)
          c.in-Err.ensures.err,
    )
