use Rattle.std.proofs.Common.{◌∙◌}
use Rattle.acl_rows.proofs.Holdings.{naming}
use Rattle.acl_rows.proofs.rows.Rows.rows_naming.Goals as goal

pub returns : goal.returns
returns c = λ row.
    rw c.from_vec.ensures
    (c.in_ok-add_own_row.ensures row
    ∙ rw (c.in_ok-rows.ensures, c.has_account.ensures, c.deref.ensures.value, c.deref-2.ensures.value, ← c.self.view_is) (naming _ c.args.account.now row))
