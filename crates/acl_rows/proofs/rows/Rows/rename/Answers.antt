use Rattle.std.proofs.Common.{◌≡◌, false}
use Rattle.acl_model.specs.declared.row.Row.TheVariants.{Account}
use Rattle.acl_rows.specs.Tables.{has_account, state_of}
use Rattle.acl_rows.proofs.Puts.{account_absent}
use Rattle.acl_rows.proofs.Renamings.{apart_from_stands, differ_renamed, state_renamed}
use Rattle.acl_rows.proofs.rows.Rows.rename.Goals as goal

pub invariant_of-self : goal.invariant_of-self
invariant_of-self c =
    let absent : has_account c.args.self.now.accounts c.args.new ≡ false = account_absent c.args.self.now (Account c.args.new) c.args.new (λ i. Account c.args.new) c.requires.new in
    rw c.rename_account.ensures (differ_renamed c.args.old.now c.args.new c.self.inside.accounts.items (rw (← c.self.view_is) at absent) c.self.invariant)

pub returns-clause-ok : goal.returns-clause-ok
returns-clause-ok c =
    let apart = apart_from_stands (state_of c.args.self.now) c.args.old.now c.args.new c.requires.old c.requires.new in
    rw (c.rename_account.ensures, c.in_ok-grants.ensures, c.deref.ensures.value, ← c.self.view_is)
    (state_renamed c.args.old.now c.args.new apart _ (rw c.self.view_is c.requires.new) c.self.invariant)
