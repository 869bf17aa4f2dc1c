use Rattle.std.proofs.Common.{refl}
use Rattle.priv_sets.specs.PlainNames.{plain_names}
use Rattle.priv_sets.proofs.plain.plain_table.Goals as goal

pub returns : goal.returns
unfolding plain_names
returns c = refl
