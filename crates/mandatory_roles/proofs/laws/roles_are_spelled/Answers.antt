use Rattle.std.proofs.Common.{refl}
use Rattle.mandatory_roles.proofs.Lists.{in_spelled, spelled_same}
use Rattle.mandatory_roles.specs.Roles.{roles_in}
use Rattle.mandatory_roles.proofs.laws.roles_are_spelled.Goals as goal

pub returns : goal.returns
returns c = record { read = λ text. in_spelled text (roles_in text) refl; unique = spelled_same }
