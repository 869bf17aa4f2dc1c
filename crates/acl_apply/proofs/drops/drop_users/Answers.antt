use Rattle.std.proofs.lemmas.Result.{IfOk-weaker}
use Rattle.acl_rows.specs.Tables.{state_of}
use Rattle.acl_apply.proofs.Dropping.{drop_closed, dropped}
use Rattle.acl_apply.proofs.drops.drop_users.Goals as goal

pub rows_without-requires : goal.rows_without-requires
rows_without-requires c = rw c.deref.ensures.value (drop_closed (state_of c.args.before.now) c.args.if_exists c.args.accounts.now c.in-Ok.gone.items c.in-Ok.ensures)

pub returns-clause-changed : goal.returns-clause-changed
returns-clause-changed c =
    IfOk-weaker c.rows_without.result _ _
    (λ rows. dropped c.args.before.now c.args.if_exists c.args.accounts.now c.in-Ok.gone.items (state_of rows) c.in-Ok.ensures)
    (rw c.deref.ensures.value at c.rows_without.ensures.ok)
