use Rattle.canonical_texts.proofs.Characters.{append_step, string_inside-push}
use Rattle.canonical_texts.proofs.quotes.write_inside.Goals as goal

pub loop-character-preserved : goal.loop-character-preserved
loop-character-preserved c =
    rw (string_inside-push c.loop-character.yielded c.in-Some.character)
    (append_step _ _ _ _ _ c.in_ok-write_inside_character.ensures c.loop-character.invariant)
