use Rattle.priv_items.proofs.OwnItemsFit.{lowered_stays}
use Rattle.priv_items.proofs.laws.lowered_targets_stay.Goals as goal

pub returns : goal.returns
returns c = lowered_stays
