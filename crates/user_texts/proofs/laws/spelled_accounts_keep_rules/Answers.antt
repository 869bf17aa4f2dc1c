use Rattle.canonical_texts.proofs.SpelledAccounts.{account_keeps}
use Rattle.user_texts.proofs.laws.spelled_accounts_keep_rules.Goals as goal

pub returns : goal.returns
returns c = account_keeps
