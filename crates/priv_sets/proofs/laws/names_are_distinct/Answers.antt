use Rattle.priv_sets.proofs.Names.{distinct_names}
use Rattle.priv_sets.proofs.PrivilegeNames.{distinct_privileges}
use Rattle.priv_sets.proofs.laws.names_are_distinct.Goals as goal

pub returns-clause-plain : goal.returns-clause-plain
returns-clause-plain c = distinct_names

pub returns-clause-all : goal.returns-clause-all
returns-clause-all c = distinct_privileges
