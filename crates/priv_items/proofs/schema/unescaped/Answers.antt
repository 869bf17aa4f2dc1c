use Rattle.std.proofs.Common.{◌∙◌, ◌++◌, ap, sym}
use Rattle.std.specs.Char.{encode_utf8}
use Rattle.priv_items.proofs.Escaping.{read_more}
use Rattle.priv_items.specs.Escapes.{unescaped}
use Rattle.priv_items.proofs.schema.unescaped.Goals as goal

pub loop-character-preserved : goal.loop-character-preserved
loop-character-preserved c = λ rest.
    c.in_ok-held.ensures rest
    ∙ c.loop-character.invariant (encode_utf8 c.in-Some.character ++ rest)
    ∙ ap unescaped (sym (read_more c.loop-character.yielded c.in-Some.character rest))
