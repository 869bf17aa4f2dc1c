use Rattle.journal_bytes.proofs.Standing.{one_offset}
use Rattle.journal_bytes.proofs.laws.damage_has_one_offset.Goals as goal

pub returns : goal.returns
returns c = one_offset
