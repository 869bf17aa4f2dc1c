use Rattle.canonical_texts.proofs.Printable.{canonical_cut, canonical_printed}
use Rattle.canonical_texts.proofs.TokenTexts.{tokens_text}
use Rattle.canonical_texts.proofs.laws.canonical_texts_are_tokens.Goals as goal

pub returns : goal.returns
returns c = record { printed = tokens_text; apart = canonical_printed; cut = canonical_cut }
