use Rattle.priv_items.proofs.Escaping.{unescaped-escaped}
use Rattle.priv_items.proofs.laws.escaped_text_is_the_name.Goals as goal

pub returns : goal.returns
returns c = unescaped-escaped
