use Rattle.std.proofs.Common.{string_bytes}
use Rattle.canonical_texts.proofs.Characters.{IsKeptSoFar}
use Rattle.canonical_texts.proofs.quotes.escaped.Given as goal

abbrev pub invariant-loop-character : goal.invariant-loop-character
invariant-loop-character l = IsKeptSoFar l.yielded (string_bytes l.kept) l.after
