-- What an iterator over a set of dynamic privileges has left.
use Rattle.std.specs.Prelude.{ℕ, List}
use Rattle.priv_sets.specs.DynamicSet.{dynamic_members}
use Rattle.priv_sets.specs.declared.dynamic_iter.DynIter.{DynIter}

abbrev pub dynamic_left : DynIter → List ℕ
dynamic_left iter = dynamic_members iter.rest
