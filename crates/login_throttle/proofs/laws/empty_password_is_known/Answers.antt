use Rattle.login_throttle.proofs.EmptyDigest.{empty_digest}
use Rattle.login_throttle.proofs.laws.empty_password_is_known.Goals as goal

pub returns : goal.returns
returns c = empty_digest
