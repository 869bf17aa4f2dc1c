use Rattle.mandatory_roles.proofs.Lists.{ok_spelled}
use Rattle.mandatory_roles.proofs.read.read_roles.Goals as goal

pub returns : goal.returns
returns c = ok_spelled _ _ c.roles_in.ensures
