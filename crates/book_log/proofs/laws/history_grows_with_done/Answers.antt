use Rattle.book_log.proofs.Grows.{grows_by_nothing, grows_by_one}
use Rattle.book_log.proofs.laws.history_grows_with_done.Goals as goal

pub returns : goal.returns
returns c = record { done = grows_by_one; unchanged = grows_by_nothing }
