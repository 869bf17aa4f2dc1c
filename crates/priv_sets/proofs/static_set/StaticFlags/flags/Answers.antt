use Rattle.std.proofs.Common.{refl}
use Rattle.priv_sets.specs.PlainNames.{plain_names}
use Rattle.priv_sets.specs.StaticFlags.{static_flags}
use Rattle.priv_sets.proofs.static_set.StaticFlags.flags.Goals as goal

pub returns : goal.returns
unfolding plain_names static_flags
returns c = λ _. refl
