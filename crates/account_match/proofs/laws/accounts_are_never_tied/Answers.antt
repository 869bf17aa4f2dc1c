use Rattle.account_match.proofs.Ties.{never_tied}
use Rattle.account_match.proofs.laws.accounts_are_never_tied.Goals as goal

pub returns : goal.returns
returns c = never_tied
