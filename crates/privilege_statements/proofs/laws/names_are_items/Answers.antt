use Rattle.privilege_statements.proofs.ReadNames.{dynamic_spelled, plain_spelled}
use Rattle.privilege_statements.proofs.laws.names_are_items.Goals as goal

pub returns-clause-plain : goal.returns-clause-plain
returns-clause-plain c = plain_spelled

pub returns-clause-dynamic : goal.returns-clause-dynamic
returns-clause-dynamic c = dynamic_spelled
