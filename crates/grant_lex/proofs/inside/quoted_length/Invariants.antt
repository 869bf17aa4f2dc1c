use Rattle.std.proofs.Common.{length, ◌-◌, ◌≤◌}
use Rattle.grant_lex.specs.Inside.{ArePieces}
use Rattle.grant_lex.proofs.inside.quoted_length.Given as goal

abbrev pub invariant-loop-piece : goal.invariant-loop-piece
invariant-loop-piece l = record { within : l.length ≤ length l.inside; pieces : ArePieces l.quote l.inside l.length }

abbrev pub decreases-loop-piece : goal.decreases-loop-piece
decreases-loop-piece l = length l.inside - l.length
