use Rattle.privilege_statements.proofs.Columns.{request_has, statement_has}
use Rattle.privilege_statements.proofs.laws.columns_are_few.Goals as goal

pub returns-clause-statement : goal.returns-clause-statement
returns-clause-statement c = statement_has

pub returns-clause-request : goal.returns-clause-request
returns-clause-request c = request_has
