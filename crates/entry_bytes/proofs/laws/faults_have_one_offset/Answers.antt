use Rattle.entry_bytes.proofs.Places.{one_offset}
use Rattle.entry_bytes.proofs.laws.faults_have_one_offset.Goals as goal

pub returns : goal.returns
returns c = one_offset
