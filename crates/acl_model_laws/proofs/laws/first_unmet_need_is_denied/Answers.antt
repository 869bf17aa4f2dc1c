use Rattle.acl_model_laws.proofs.Denials.{allowed, denied}
use Rattle.acl_model_laws.proofs.laws.first_unmet_need_is_denied.Goals as goal

pub returns : goal.returns
returns c = record { allowed = allowed; denied = denied }
