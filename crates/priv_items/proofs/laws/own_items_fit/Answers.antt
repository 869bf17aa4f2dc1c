use Rattle.priv_items.proofs.OwnItemsFit.{own_items_fit_target}
use Rattle.priv_items.proofs.laws.own_items_fit.Goals as goal

pub returns : goal.returns
returns c = own_items_fit_target
