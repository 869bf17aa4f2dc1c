use Rattle.journal_bytes.proofs.Standing.{damaged_not_foreign, stands_not_foreign}
use Rattle.journal_bytes.proofs.laws.journals_are_not_foreign.Goals as goal

pub returns-clause-stands : goal.returns-clause-stands
returns-clause-stands c = stands_not_foreign

pub returns-clause-damaged : goal.returns-clause-damaged
returns-clause-damaged c = damaged_not_foreign
