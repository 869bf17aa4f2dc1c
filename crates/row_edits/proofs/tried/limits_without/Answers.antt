use Rattle.std.proofs.Common.{◌∙◌, ap, subst, sym}
use Rattle.std.proofs.lemmas.Result.{on_ok_weaker}
use Rattle.acl_model.specs.Acceptance.{limits_in_order}
use Rattle.acl_model.specs.Counts.{IsExceeded}
use Rattle.acl_model.specs.Firsts.{HasNone, IsFirst}
use Rattle.acl_model.specs.State.{State}
use Rattle.row_tables.specs.Lists.{IsClosed, without_rows}
use Rattle.row_edits.proofs.Limiting.{if_err_weaker}
use Rattle.row_edits.proofs.tried.limits_without.Goals as goal

pub take_all-requires : goal.take_all-requires
take_all-requires c = subst (λ (st : State). IsClosed st c.args.gone.now) (sym c.in_ok-left.ensures) c.requires

pub returns-clause-ok : goal.returns-clause-ok
returns-clause-ok c =
    on_ok_weaker c.within_limits.result
    (subst (λ (st : State). HasNone (IsExceeded st) limits_in_order) (c.take_all.ensures.state ∙ ap (without_rows c.args.gone.now) c.in_ok-left.ensures))
    c.within_limits.ensures.ok

pub returns-clause-err : goal.returns-clause-err
returns-clause-err c =
    if_err_weaker c.within_limits.result _ _
    (λ what. subst (λ (st : State). IsFirst (IsExceeded st) limits_in_order what) (c.take_all.ensures.state ∙ ap (without_rows c.args.gone.now) c.in_ok-left.ensures))
    c.within_limits.ensures.err
