use Rattle.std.proofs.Common.{rules}
use Rattle.acl_names.proofs.Doubled.{doubled-encode_utf8}
use Rattle.canonical_texts.proofs.quotes.write_doubled_character.Goals as goal

pub returns-else-character-eq96 : goal.returns-else-character-eq96
returns-else-character-eq96 c = rw (doubled-encode_utf8 c.args.character c.if-character-eq96.false) (search rules)
