use Rattle.std.proofs.Common.{◌≡◌, map, take}
use Rattle.account_edits.proofs.rename.old_names.Given as goal

abbrev pub invariant-loop-pair : goal.invariant-loop-pair
invariant-loop-pair l = l.names.items ≡ map (λ pair. pair.0) (take l.pair-index l.pairs)
