use Rattle.grant_lex.proofs.Values.{value_meant}
use Rattle.grant_lex.proofs.laws.values_are_meant.Goals as goal

pub returns : goal.returns
returns c = value_meant
