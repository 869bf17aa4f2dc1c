use Rattle.std.proofs.Common.{◌∙◌, [], ap}
use Rattle.std.specs.Option.{option_map}
use Rattle.std.proofs.lemmas.Result.{err_from_is_err_and}
use Rattle.acl_model.specs.Effects.{changed}
use Rattle.acl_model.specs.Refusals.{first_fault}
use Rattle.acl_rows.specs.Tables.{state_of}
use Rattle.acl_stmt.specs.declared.refusal.Refusal.TheVariants.{AccountExists}
use Rattle.acl_stmt.specs.declared.statement.Statement.TheVariants.{CreateUser}
use Rattle.acl_apply.proofs.Creating.{fault_if_exists, fault_if_taken, on_ok_always, taken_cause}
use Rattle.acl_apply.proofs.create.create_users.Goals as goal

pub create_all-requires : goal.create_all-requires
create_all-requires c = fault_if_exists (state_of c.args.before.now) c.args.accounts.now c.args.options.now

pub returns-then-if_not_exists-clause-fault : goal.returns-then-if_not_exists-clause-fault
returns-then-if_not_exists-clause-fault c =
    on_ok_always c.create_all.result _
    (ap (λ b. first_fault (state_of c.args.before.now) (CreateUser b c.args.accounts.now c.args.options.now)) c.if-if_not_exists.true
    ∙ fault_if_exists (state_of c.args.before.now) c.args.accounts.now c.args.options.now)

pub returns-in_err-none_taken-clause-err : goal.returns-in_err-none_taken-clause-err
returns-in_err-none_taken-clause-err c =
    let p = err_from_is_err_and c.from_residual.result c.from_residual.ensures.1 in
    rw (p.1, p.2)
    (taken_cause (state_of c.args.before.now) (changed [] (CreateUser c.args.if_not_exists c.args.accounts.now c.args.options.now) (state_of c.args.before.now)) c.args.if_not_exists c.args.accounts.now c.args.options.now c.if-if_not_exists.false c.in_err-none_taken.field-0.0 c.in_err-none_taken.ensures.err)

pub create_all-requires-2 : goal.create_all-requires-2
create_all-requires-2 c =
    fault_if_taken (state_of c.args.before.now) c.args.accounts.now c.args.options.now ∙ ap (option_map (λ a. AccountExists a)) c.in_ok-none_taken.ensures.ok

pub returns-clause-fault : goal.returns-clause-fault
returns-clause-fault c =
    on_ok_always c.create_all-2.result _
    (ap (λ b. first_fault (state_of c.args.before.now) (CreateUser b c.args.accounts.now c.args.options.now)) c.if-if_not_exists.false
    ∙ fault_if_taken (state_of c.args.before.now) c.args.accounts.now c.args.options.now ∙ ap (option_map (λ a. AccountExists a)) c.in_ok-none_taken.ensures.ok)
