use Rattle.privilege_texts.proofs.Statements.{read_back}
use Rattle.privilege_texts.proofs.laws.canonical_texts_are_read_back.Goals as goal

pub returns : goal.returns
returns c = read_back
