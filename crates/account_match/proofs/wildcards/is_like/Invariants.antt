use Rattle.std.proofs.Common.{◌+◌, ◌*◌, length}
use denote.Text.{Utf8}
use denote.Shadow.{shadow}
use Rattle.std.specs.Str.{chars}
use Rattle.account_match.proofs.Steps.{IsReached}
use Rattle.account_match.proofs.wildcards.is_like.Given as goal

abbrev pub invariant-loop-behind : goal.invariant-loop-behind
invariant-loop-behind l =
    shadow (Utf8 l.signs) × (shadow (Utf8 l.rest) × (shadow (Utf8 l.retry) × (shadow (Utf8 l.tried)
    × IsReached (chars l.pattern) (chars l.text) (chars l.signs) (chars l.rest) (chars l.retry) (chars l.tried) l.passed)))

abbrev pub decreases-loop-behind : goal.decreases-loop-behind
decreases-loop-behind l = length (chars l.tried) * (length (chars l.pattern) + 1) + length (chars l.signs)
