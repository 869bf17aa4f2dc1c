use Rattle.user_texts.proofs.Statements.{completed_read}
use Rattle.user_texts.proofs.laws.completed_passwords_are_read.Goals as goal

pub returns : goal.returns
returns c = completed_read
