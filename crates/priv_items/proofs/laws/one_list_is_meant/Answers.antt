use Rattle.priv_items.proofs.OneList.{one_list}
use Rattle.priv_items.proofs.laws.one_list_is_meant.Goals as goal

pub returns : goal.returns
returns c = one_list
