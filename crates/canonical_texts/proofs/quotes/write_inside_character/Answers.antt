use Rattle.std.proofs.Common.{rules}
use Rattle.canonical_texts.proofs.Characters.{string_inside-encode_utf8}
use Rattle.canonical_texts.proofs.quotes.write_inside_character.Goals as goal

pub returns-else-character-eq92 : goal.returns-else-character-eq92
returns-else-character-eq92 c =
    rw (string_inside-encode_utf8 c.args.character c.if-character-eq39.false c.if-character-eq92.false) (search rules)
