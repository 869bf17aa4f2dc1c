use Rattle.grant_effects.proofs.Legal.{given_level, given_names}
use Rattle.grant_effects.proofs.laws.given_rows_are_legal.Goals as goal

pub returns-clause-names : goal.returns-clause-names
returns-clause-names c = λ limits privileges target accounts option state row none given. given_names limits privileges target accounts option state row none given

pub returns-clause-level : goal.returns-clause-level
returns-clause-level c = given_level
