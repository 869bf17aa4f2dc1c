use Rattle.std.proofs.Common.{length}
use Rattle.grant_lex.proofs.Cuts.{IsSoFar}
use Rattle.grant_lex.proofs.cut.cut.Given as goal

abbrev pub invariant-loop-tokens : goal.invariant-loop-tokens
invariant-loop-tokens l = IsSoFar l.text l.at l.rest l.tokens

abbrev pub decreases-loop-tokens : goal.decreases-loop-tokens
decreases-loop-tokens l = length l.rest
