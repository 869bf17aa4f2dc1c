use Rattle.book_log.proofs.WholeLog.{worked_log_is_legal}
use Rattle.book_log.proofs.laws.worked_log_is_legal.Goals as goal

pub returns : goal.returns
returns c = worked_log_is_legal
