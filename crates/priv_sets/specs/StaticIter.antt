-- What an iterator over a set of static privileges has left.
use Rattle.std.specs.Prelude.{ℕ, List}
use Rattle.priv_sets.specs.StaticSet.{members}
use Rattle.priv_sets.specs.declared.static_iter.StaticIter.{StaticIter}

abbrev pub left : StaticIter → List ℕ
left iter = members iter.rest
