use Rattle.mandatory_roles.proofs.Written.{roles_written}
use Rattle.mandatory_roles.proofs.laws.written_roles_are_spelled.Goals as goal

pub returns : goal.returns
returns c = roles_written
