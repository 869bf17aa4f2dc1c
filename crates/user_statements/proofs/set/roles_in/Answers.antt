use Rattle.mandatory_roles.proofs.Lists.{ok_in}
use Rattle.user_statements.proofs.set.roles_in.Goals as goal

pub returns : goal.returns
returns c = ok_in _ _ c.read_roles.ensures
