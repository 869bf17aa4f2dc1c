use Rattle.std.proofs.Common.{length, ◌-◌}
use Rattle.grant_lex.proofs.Values.{IsValueSoFar}
use Rattle.grant_lex.proofs.value.unquoted.Given as goal

abbrev pub invariant-loop-piece : goal.invariant-loop-piece
invariant-loop-piece l = IsValueSoFar l.quote l.inside l.length l.value.items

abbrev pub decreases-loop-piece : goal.decreases-loop-piece
decreases-loop-piece l = length l.inside - l.length
