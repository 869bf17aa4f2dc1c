use Rattle.std.proofs.Common.{refl}
use Rattle.priv_sets.specs.DynamicNames.{dynamic_names}
use Rattle.priv_sets.proofs.dynamic.dynamic_table.Goals as goal

pub returns : goal.returns
unfolding dynamic_names
returns c = refl
