use Rattle.std.proofs.Common.{◌≡◌, drop}
use Rattle.grant_words.specs.Numbers.{number_behind, number_of}
use Rattle.grant_words.proofs.number.number_of.Given as goal

abbrev pub invariant-loop-digit : goal.invariant-loop-digit
invariant-loop-digit l = number_behind l.number (drop l.digit-index l.fn.text) ≡ number_of l.fn.text
