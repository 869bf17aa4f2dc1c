use Rattle.std.proofs.Common.{◌≡◌, false, sym}
use Rattle.std.proofs.lemmas.Result.{on_ok_weaker}
use Rattle.acl_model.specs.Accounts.{new_account}
use Rattle.acl_rows.specs.Tables.{state_of}
use Rattle.acl_rows.proofs.Differ.{differ_after}
use Rattle.acl_rows.proofs.Puts.{account_absent, account_comes, row_comes, with_row-standing}
use Rattle.acl_rows.proofs.rows.Rows.insert.Goals as goal

pub returns-then-held-clause-ok : goal.returns-then-held-clause-ok
returns-then-held-clause-ok c = with_row-standing _ _ (sym c.if-held.ensures)

pub invariant_of-self : goal.invariant_of-self
invariant_of-self c =
    let stood_not : (state_of c.args.self.now).rows c.args.row ≡ false = sym c.if-held.ensures in
    let absent = account_absent _ c.args.row c.in-Ok.account c.in-Ok.ensures (rw (← c.self.view_is) at stood_not) in
    differ_after c.add_account.result c.in-Ok.account new_account c.self.inside.accounts.items c.add_account.new.accounts.items c.add_account.ensures.ok c.add_account.ensures.err c.self.invariant absent

pub returns-in-Ok-clause-ok : goal.returns-in-Ok-clause-ok
returns-in-Ok-clause-ok c =
    rw (← c.self.view_is)
    (on_ok_weaker _ (account_comes _ c.in-Ok.account c.args.row _ c.in-Ok.ensures (rw (c.self.view_is) (sym c.if-held.ensures))) c.add_account.ensures.ok)

pub returns-in-Err-clause-ok : goal.returns-in-Err-clause-ok
returns-in-Err-clause-ok c =
    rw (← c.self.view_is)
    (on_ok_weaker _ (row_comes _ c.in-Err.other c.args.row _ c.in-Err.ensures.0 c.in-Err.ensures.1) c.add_grant.ensures.ok)
