use Rattle.script_commands.proofs.Disjoint.{no_privilege_statement, no_user_statement}
use Rattle.script_commands.proofs.laws.commands_are_no_statements.Goals as goal

pub returns-clause-users : goal.returns-clause-users
returns-clause-users c = no_user_statement

pub returns-clause-privileges : goal.returns-clause-privileges
returns-clause-privileges c = no_privilege_statement
