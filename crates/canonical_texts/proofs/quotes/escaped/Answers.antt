use Rattle.std.proofs.Common.{refl}
use Rattle.canonical_texts.proofs.Characters.{kept_more}
use Rattle.canonical_texts.proofs.quotes.escaped.Goals as goal

pub loop-character-preserved : goal.loop-character-preserved
loop-character-preserved c = kept_more _ _ _ _ _ _ c.loop-character.invariant c.in_ok-write_kept_character.ensures refl
