use Rattle.std.proofs.Common.{not}
use Rattle.acl_names.specs.AuthId.{same_auth}
use Rattle.acl_rows.proofs.Differ.{differ-filter}
use Rattle.acl_rows.proofs.Puts.{state_of-no_account, state_of-no_grant}
use Rattle.acl_rows.proofs.States.{no_account}
use Rattle.acl_rows.proofs.rows.Rows.take.Goals as goal

pub invariant_of-self : goal.invariant_of-self
invariant_of-self c =
    rw c.remove_account.ensures (differ-filter (λ pair. not (same_auth c.in-Account.account pair.0)) c.self.inside.accounts.items c.self.invariant)

pub returns-in-Account : goal.returns-in-Account
returns-in-Account c =
    rw (c.remove_account.ensures, ← c.self.view_is, c.in-Account.is)
    (state_of-no_account (record { accounts = c.self.inside.accounts.items; grants = c.self.inside.grants.items; mandatory = c.self.inside.mandatory; activate_all = c.self.inside.activate_all }) c.in-Account.account)

pub returns-in_default : goal.returns-in_default
returns-in_default c =
    rw (c.remove_grant.ensures, ← c.self.view_is)
    (state_of-no_grant (record { accounts = c.self.inside.accounts.items; grants = c.self.inside.grants.items; mandatory = c.self.inside.mandatory; activate_all = c.self.inside.activate_all }) c.args.row.now (no_account c.args.row.now c.in_default.not-Account))
