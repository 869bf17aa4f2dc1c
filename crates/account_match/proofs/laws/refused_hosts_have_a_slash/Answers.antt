use Rattle.account_match.proofs.Ties.{refused_has_slash}
use Rattle.account_match.proofs.laws.refused_hosts_have_a_slash.Goals as goal

pub returns : goal.returns
returns c = refused_has_slash
