use Rattle.std.proofs.Common.{◌≡◌, ◌∙◌, ap, subst, sym, false}
use Rattle.acl_model.specs.State.{State}
use Rattle.row_tables.specs.Tables.{state_of}
use Rattle.account_edits.specs.Created.{account_rows}
use Rattle.account_edits.proofs.Creating.{none_stands}
use Rattle.account_edits.proofs.create.may_add.Goals as goal

pub limits_with-requires-clause-absent : goal.limits_with-requires-clause-absent
limits_with-requires-clause-absent c row there =
    ap (λ (st : State). st.rows row) c.reserve_for.ensures.kept
    ∙ none_stands (state_of c.args.rows.now) c.args.options.now c.args.accounts.now c.deref-2.result.now
    (c.deref-2.ensures.value ∙ c.in-Ok-account_rows.ensures ∙ ap account_rows (c.deref.ensures.value ∙ c.in-Ok.ensures)) row there
