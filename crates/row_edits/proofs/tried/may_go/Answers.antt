use Rattle.acl_model.specs.Acceptance.{limits_in_order}
use Rattle.acl_model.specs.Counts.{IsExceeded}
use Rattle.acl_model.specs.Firsts.{HasNone}
use Rattle.std.proofs.Common.{◌∙◌, sym}
use Rattle.row_tables.specs.Lists.{without_rows}
use Rattle.row_tables.specs.Tables.{state_of}
use Rattle.row_edits.proofs.Trials.{left_stays, none_fewer, of_ok}
use Rattle.row_edits.proofs.tried.may_go.Goals as goal

pub returns-then-is_ok-clause-ok : goal.returns-then-is_ok-clause-ok
returns-then-is_ok-clause-ok c =
    none_fewer (state_of c.args.rows.now) (without_rows c.args.gone.now (state_of c.args.rows.now)) limits_in_order
    (λ what. c.fewer_rows_exceed_no_more.ensures (without_rows c.args.gone.now (state_of c.args.rows.now)) what (left_stays c.args.gone.now (state_of c.args.rows.now)))
    (of_ok c.within_limits.result (HasNone (IsExceeded (state_of c.args.rows.now)) limits_in_order) (sym c.is_ok.ensures.value ∙ c.if-is_ok.true) c.within_limits.ensures.ok)
