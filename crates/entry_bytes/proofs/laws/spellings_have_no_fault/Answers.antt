use Rattle.entry_bytes.proofs.Places.{spelled_well}
use Rattle.entry_bytes.proofs.laws.spellings_have_no_fault.Goals as goal

pub returns : goal.returns
returns c = spelled_well
