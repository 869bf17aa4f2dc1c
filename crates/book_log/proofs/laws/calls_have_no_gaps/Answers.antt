use Rattle.book_log.proofs.Numbers.{numbered}
use Rattle.book_log.proofs.laws.calls_have_no_gaps.Goals as goal

pub returns : goal.returns
returns c = numbered
