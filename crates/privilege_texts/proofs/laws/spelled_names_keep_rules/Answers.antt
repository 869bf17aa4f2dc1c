use Rattle.privilege_texts.proofs.Statements.{names_kept}
use Rattle.privilege_texts.proofs.laws.spelled_names_keep_rules.Goals as goal

pub returns : goal.returns
returns c = names_kept
