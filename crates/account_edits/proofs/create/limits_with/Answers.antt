use Rattle.std.proofs.Common.{◌∙◌, List, subst, sym}
use Rattle.acl_model.specs.State.{State}
use Rattle.acl_model.specs.declared.row.Row.{Row}
use Rattle.row_tables.specs.Tables.{state_of}
use Rattle.account_edits.specs.Created.{HasComePartly, IsCrowded, with_accounts}
use Rattle.account_edits.proofs.Creating.{come_closed, first_crowd, gone_again, limits_kept, match_false, match_true}
use Rattle.account_edits.proofs.Renaming.{unknown}
use Rattle.account_edits.proofs.create.limits_with.Goals.{then-add_accounts, else-add_accounts}
use Rattle.account_edits.proofs.create.limits_with.Goals as goal

pub take_all-requires : goal.take_all-requires
take_all-requires c =
    come_closed (state_of c.args.rows.now) (state_of c.add_accounts.new.rows) c.args.accounts.items c.args.back.now c.requires.back c.requires.absent
    (subst (λ (rows : List Row). HasComePartly rows (state_of c.args.rows.now) (state_of c.add_accounts.new.rows)) (sym c.requires.back) c.add_accounts.ensures.partly)
    c.rows_name_accounts.ensures

pub returns-clause-kept : goal.returns-clause-kept
returns-clause-kept c =
    c.take_all.ensures.state
    ∙ gone_again (state_of c.args.rows.now) (state_of c.add_accounts.new.rows) c.args.accounts.items c.args.back.now c.requires.back c.requires.absent
    (subst (λ (rows : List Row). HasComePartly rows (state_of c.args.rows.now) (state_of c.add_accounts.new.rows)) (sym c.requires.back) c.add_accounts.ensures.partly)
    (unknown c.args.rows.now)

pub returns-clause-err : goal.returns-clause-err
returns-clause-err c =
    elim c.if-add_accounts.branch [
      | then-add_accounts w ↦
          limits_kept c.if-add_accounts.within w.within_limits-within.result (state_of c.add_accounts.new.rows) (with_accounts c.args.accounts.items (state_of c.args.rows.now)) w.within-is
          (match_true _ _ c.add_accounts.result w.if-add_accounts.true c.add_accounts.ensures.all) w.within_limits-within.ensures.err
      | else-add_accounts w ↦
          first_crowd c.if-add_accounts.within (with_accounts c.args.accounts.items (state_of c.args.rows.now)) w.within-is
          (match_false _ _ c.add_accounts.result w.if-add_accounts.false c.add_accounts.ensures.all)
    ]
