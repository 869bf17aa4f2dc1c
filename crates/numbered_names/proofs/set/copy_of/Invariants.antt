use Rattle.std.proofs.Common.{◌≡◌, take}
use Rattle.numbered_names.proofs.set.copy_of.Given as goal

abbrev pub invariant-loop-name : goal.invariant-loop-name
invariant-loop-name g l = l.made.keys ≡ take l.name-index l.name-items
