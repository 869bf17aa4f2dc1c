use Rattle.journal_bytes.proofs.Standing.{undamaged}
use Rattle.journal_bytes.proofs.laws.files_that_stand_are_not_damaged.Goals as goal

pub returns : goal.returns
returns c = undamaged
