use Rattle.accepted_lists.proofs.Known.{accounts_after, accounts_from, accounts_opening}
use Rattle.accepted_lists.proofs.laws.accepted_statements_keep_accounts.Goals as goal
use Rattle.acl_model.specs.State.{opening}

pub returns : goal.returns
returns c = record { first = accounts_opening; next = accounts_after; history = λ history accepted. accounts_from history opening accounts_opening accepted }
