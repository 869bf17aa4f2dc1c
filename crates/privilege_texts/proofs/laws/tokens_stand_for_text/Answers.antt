use Rattle.privilege_texts.proofs.TokenValues.{tokens_are_text}
use Rattle.privilege_texts.proofs.laws.tokens_stand_for_text.Goals as goal

pub returns : goal.returns
returns c = tokens_are_text
