use Rattle.journal_bytes.proofs.Standing.{one_list}
use Rattle.journal_bytes.proofs.laws.files_stand_for_one_list.Goals as goal

pub returns : goal.returns
returns c = one_list
