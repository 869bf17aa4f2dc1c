use Rattle.std.proofs.lemmas.Result.{IfOk-weaker, on_ok_weaker}
use Rattle.acl_rows.specs.Tables.{state_of}
use Rattle.acl_apply.proofs.Refusing.{after_creating, after_dropping, after_granting, after_renaming, after_revoking, after_revoking_all, creation_refused, feasible_creating, feasible_dropping, feasible_granting, feasible_renaming, feasible_revoking, feasible_revoking_all, if_err_weaker, revoke_refused, statement_of}
use Rattle.acl_stmt.specs.declared.statement.Statement.TheVariants.{Revoke}
use Rattle.acl_apply.proofs.apply.rows_after.Goals as goal

pub returns-in-RenameUser-clause-feasible : goal.returns-in-RenameUser-clause-feasible
returns-in-RenameUser-clause-feasible c =
    on_ok_weaker _ (feasible_renaming (state_of c.args.before.now) c.args.entry.now.statement c.in-RenameUser.pairs c.in-RenameUser.is) (rw c.as_slice-in-RenameUser.ensures at c.rename_users.ensures.fault)

pub returns-in-RenameUser-clause-changed : goal.returns-in-RenameUser-clause-changed
returns-in-RenameUser-clause-changed c =
    IfOk-weaker c.rename_users.result _ _ (λ rows. after_renaming c.args.entry.now c.in-RenameUser.pairs (state_of c.args.before.now) (state_of rows) c.in-RenameUser.is)
    (rw c.as_slice-in-RenameUser.ensures at c.rename_users.ensures.changed)

pub returns-in-CreateUser-clause-feasible : goal.returns-in-CreateUser-clause-feasible
returns-in-CreateUser-clause-feasible c =
    on_ok_weaker _
    (feasible_creating (state_of c.args.before.now) c.args.entry.now.statement c.in-CreateUser.if_not_exists c.in-CreateUser.accounts c.in-CreateUser.options c.in-CreateUser.is)
    (rw c.as_slice.ensures at c.create_users.ensures.fault)

pub returns-in-CreateUser-clause-changed : goal.returns-in-CreateUser-clause-changed
returns-in-CreateUser-clause-changed c =
    IfOk-weaker c.create_users.result _ _
    (λ rows. after_creating c.args.entry.now c.in-CreateUser.if_not_exists c.in-CreateUser.accounts c.in-CreateUser.options (state_of c.args.before.now) (state_of rows) c.in-CreateUser.is)
    (rw c.as_slice.ensures at c.create_users.ensures.changed)

pub returns-in-CreateUser-clause-err : goal.returns-in-CreateUser-clause-err
returns-in-CreateUser-clause-err c =
    if_err_weaker c.create_users.result _ _
    (creation_refused (state_of c.args.before.now) c.args.entry.now c.in-CreateUser.if_not_exists c.in-CreateUser.accounts c.in-CreateUser.options c.in-CreateUser.is)
    (rw c.as_slice.ensures at c.create_users.ensures.err)

pub returns-in-DropUser-clause-feasible : goal.returns-in-DropUser-clause-feasible
returns-in-DropUser-clause-feasible c =
    on_ok_weaker _
    (feasible_dropping (state_of c.args.before.now) c.args.entry.now.statement c.in-DropUser.if_exists c.in-DropUser.accounts c.in-DropUser.is)
    (rw c.as_slice-in-DropUser.ensures at c.drop_users.ensures.fault)

pub returns-in-DropUser-clause-changed : goal.returns-in-DropUser-clause-changed
returns-in-DropUser-clause-changed c =
    IfOk-weaker c.drop_users.result _ _
    (λ rows. after_dropping c.args.entry.now c.in-DropUser.if_exists c.in-DropUser.accounts (state_of c.args.before.now) (state_of rows) c.in-DropUser.is)
    (rw c.as_slice-in-DropUser.ensures at c.drop_users.ensures.changed)

pub returns-in-Grant-clause-feasible : goal.returns-in-Grant-clause-feasible
returns-in-Grant-clause-feasible c =
    on_ok_weaker c.grant_privileges.result
    (feasible_granting (state_of c.args.before.now) c.args.entry.now.statement c.in-Grant.privileges c.in-Grant.target c.in-Grant.accounts c.in-Grant.with_grant_option c.in-Grant.is)
    (rw c.as_slice-in-Grant.ensures at c.grant_privileges.ensures.fault)

pub returns-in-Grant-clause-changed : goal.returns-in-Grant-clause-changed
returns-in-Grant-clause-changed c =
    IfOk-weaker c.grant_privileges.result _ _
    (λ rows. after_granting c.args.entry.now c.in-Grant.privileges c.in-Grant.target c.in-Grant.accounts c.in-Grant.with_grant_option (state_of c.args.before.now) (state_of rows) c.in-Grant.is)
    (rw (c.as_slice-in-Grant.ensures, c.as_slice-in-Grant-2.ensures) at c.grant_privileges.ensures.changed)

pub revoke_privileges-requires : goal.revoke_privileges-requires
revoke_privileges-requires c =
    rw c.as_slice-in-Revoke.ensures (statement_of c.args.entry.now (Revoke c.in-Revoke.privileges c.in-Revoke.target c.in-Revoke.accounts) c.in-Revoke.is)

pub returns-in-Revoke-clause-feasible : goal.returns-in-Revoke-clause-feasible
returns-in-Revoke-clause-feasible c =
    on_ok_weaker c.revoke_privileges.result
    (feasible_revoking (state_of c.args.before.now) c.args.entry.now.statement c.in-Revoke.privileges c.in-Revoke.target c.in-Revoke.accounts c.in-Revoke.is)
    (rw c.as_slice-in-Revoke.ensures at c.revoke_privileges.ensures.found)

pub returns-in-Revoke-clause-changed : goal.returns-in-Revoke-clause-changed
returns-in-Revoke-clause-changed c =
    IfOk-weaker c.revoke_privileges.result _ _
    (λ rows. after_revoking c.args.entry.now c.in-Revoke.privileges c.in-Revoke.target c.in-Revoke.accounts (state_of c.args.before.now) (state_of rows) c.in-Revoke.is)
    (rw c.as_slice-in-Revoke.ensures at c.revoke_privileges.ensures.changed)

pub returns-in-Revoke-clause-err : goal.returns-in-Revoke-clause-err
returns-in-Revoke-clause-err c =
    if_err_weaker c.revoke_privileges.result _ _
    (revoke_refused (state_of c.args.before.now) c.args.entry.now c.in-Revoke.privileges c.in-Revoke.target c.in-Revoke.accounts c.in-Revoke.is)
    (rw c.as_slice-in-Revoke.ensures at c.revoke_privileges.ensures.err)

pub returns-in-RevokeAll-clause-feasible : goal.returns-in-RevokeAll-clause-feasible
returns-in-RevokeAll-clause-feasible c =
    on_ok_weaker c.revoke_all.result
    (feasible_revoking_all (state_of c.args.before.now) c.args.entry.now.statement c.in-RevokeAll.accounts c.in-RevokeAll.is)
    (rw c.as_slice-in-RevokeAll.ensures at c.revoke_all.ensures.fault)

pub returns-in-RevokeAll-clause-changed : goal.returns-in-RevokeAll-clause-changed
returns-in-RevokeAll-clause-changed c =
    IfOk-weaker c.revoke_all.result _ _
    (λ rows. after_revoking_all c.args.entry.now c.in-RevokeAll.accounts (state_of c.args.before.now) (state_of rows) c.in-RevokeAll.is)
    (rw c.as_slice-in-RevokeAll.ensures at c.revoke_all.ensures.changed)
