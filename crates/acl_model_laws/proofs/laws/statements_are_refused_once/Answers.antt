use Rattle.acl_model_laws.proofs.Once.{refused_once}
use Rattle.acl_model_laws.proofs.OneRefusal.{one_refusal}
use Rattle.acl_model_laws.proofs.laws.statements_are_refused_once.Goals as goal

pub returns : goal.returns
returns c = record { one = one_refusal; not_accepted = refused_once }
