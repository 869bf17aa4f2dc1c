use Rattle.std.proofs.Common.{◌≡◌, take}
use Rattle.grant_words.specs.Lexemes.{lexemes_of}
use Rattle.grant_words.proofs.cut.lexemes.Given as goal

abbrev pub invariant-loop-token : goal.invariant-loop-token
invariant-loop-token l = l.lexemes.items ≡ lexemes_of l.fn.text (take l.token-index l.fn.tokens)
