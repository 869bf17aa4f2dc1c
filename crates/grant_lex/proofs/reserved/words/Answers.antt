use Rattle.std.proofs.Common.{refl}
use Rattle.grant_lex.specs.Reserved.{reserved_words}
use Rattle.grant_lex.proofs.reserved.words.Goals as goal

pub returns : goal.returns
unfolding reserved_words
returns c = refl
