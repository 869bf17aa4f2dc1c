use Rattle.std.proofs.Common.{◌≡◌, take}
use Rattle.account_edits.proofs.rename.reversed.Given as goal

abbrev pub invariant-loop-pair : goal.invariant-loop-pair
invariant-loop-pair l = l.made.items ≡ take l.pair-index l.pairs
