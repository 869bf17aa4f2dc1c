use Rattle.acl_names.specs.AuthId.{same_auth}
use Rattle.acl_rows.proofs.Firsts.{change_found, change_none}
use Rattle.acl_rows.proofs.accounts.set_data_of.Goals as goal

pub returns-in-Some : goal.returns-in-Some
returns-in-Some c =
    change_found (λ pair. same_auth c.args.account.now pair.0) (λ pair. (pair.0, c.args.value)) c.args.accounts.now.items c.in-Some.place c.index_mut.result.now
    (rw (← c.deref.ensures.value) (cc)) c.index_mut.ensures.value

pub returns-in_default : goal.returns-in_default
returns-in_default c =
    change_none (λ pair. same_auth c.args.account.now pair.0) (λ pair. (pair.0, c.args.value)) c.args.accounts.now.items (rw (← c.deref.ensures.value) (cc))
