use Rattle.std.proofs.lemmas.Result.{IfOk-weaker}
use Rattle.acl_rows.specs.Tables.{state_of}
use Rattle.acl_apply.proofs.Revoking.{revoke_closed, revoke_ready, revoked}
use Rattle.acl_apply.proofs.revoke.revoke_privileges.Goals as goal

pub rows_without-requires : goal.rows_without-requires
rows_without-requires c =
    rw c.deref.ensures.value
    (revoke_closed c.args.privileges.now c.args.target.now c.args.accounts.now (state_of c.args.before.now) c.in-Ok.gone.items c.in-Ok-rows_given.come.items c.in-Ok.ensures c.in-Ok-rows_given.ensures)

pub rows_with-requires : goal.rows_with-requires
rows_with-requires c =
    rw c.deref-2.ensures.value
    (revoke_ready c.args.privileges.now c.args.target.now c.args.accounts.now (state_of c.args.before.now) c.in-Ok.gone.items c.in-Ok-rows_given.come.items c.in-Ok.ensures c.in-Ok-rows_given.ensures
    c.requires c.in_ok-may_revoke.ensures.ok.0 (state_of c.in_ok-rows.rows) (rw c.deref.ensures.value at c.in_ok-rows.ensures.ok))

pub returns-clause-changed : goal.returns-clause-changed
returns-clause-changed c =
    IfOk-weaker c.rows_with.result _ _
    (λ rows. revoked c.args.privileges.now c.args.target.now c.args.accounts.now (state_of c.args.before.now) c.in-Ok.gone.items c.in-Ok-rows_given.come.items c.in-Ok.ensures c.in-Ok-rows_given.ensures
    (state_of c.in_ok-rows.rows) (state_of rows) (rw c.deref.ensures.value at c.in_ok-rows.ensures.ok))
    (rw c.deref-2.ensures.value at c.rows_with.ensures.ok)
