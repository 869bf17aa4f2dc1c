use Rattle.acl_model_laws.proofs.Histories.{state_after_push}
use Rattle.acl_model_laws.proofs.laws.history_grows_by_one.Goals as goal

pub returns : goal.returns
returns c = state_after_push
