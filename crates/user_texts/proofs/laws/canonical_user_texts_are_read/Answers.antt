use Rattle.user_texts.proofs.Statements.{canonical_read}
use Rattle.user_texts.proofs.laws.canonical_user_texts_are_read.Goals as goal

pub returns : goal.returns
returns c = canonical_read
