use Rattle.acl_names.proofs.Doubled.{doubled-push}
use Rattle.canonical_texts.proofs.Characters.{append_step}
use Rattle.canonical_texts.proofs.quotes.write_doubled.Goals as goal

pub loop-character-preserved : goal.loop-character-preserved
loop-character-preserved c =
    rw (doubled-push c.loop-character.yielded c.in-Some.character)
    (append_step _ _ _ _ _ c.in_ok-write_doubled_character.ensures c.loop-character.invariant)
