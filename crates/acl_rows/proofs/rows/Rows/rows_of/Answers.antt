use Rattle.std.proofs.Common.{◌∙◌}
use Rattle.acl_rows.proofs.Holdings.{holding}
use Rattle.acl_rows.proofs.rows.Rows.rows_of.Goals as goal

pub returns-clause-rows : goal.returns-clause-rows
returns-clause-rows c = λ row.
    rw c.from_vec.ensures
    (c.in_ok-sort_rows.ensures.same row ∙ c.in_ok-add_own_row.ensures row
    ∙ rw (c.in_ok-rows.ensures, c.has_account.ensures, c.deref.ensures.value, c.deref-2.ensures.value, ← c.self.view_is) (holding _ c.args.account.now row))
