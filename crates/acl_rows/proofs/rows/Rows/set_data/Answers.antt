use Rattle.acl_rows.proofs.Data.{names_of-value, state_of-value}
use Rattle.acl_rows.proofs.rows.Rows.set_data.Goals as goal

pub invariant_of-self : goal.invariant_of-self
invariant_of-self c = rw (c.set_data_of.ensures, names_of-value c.args.account.now c.args.value c.self.inside.accounts.items) c.self.invariant

pub returns : goal.returns
returns c = rw (c.set_data_of.ensures, ← c.self.view_is) (state_of-value _ c.args.account.now c.args.value (rw c.self.view_is c.requires))
