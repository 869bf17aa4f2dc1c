use Rattle.book_log.proofs.Counted.{is_history}
use Rattle.book_log.proofs.Stamps.{stamp_answers, stamp_began, stamp_exists}
use Rattle.book_log.proofs.laws.stamps_count_the_log.Goals as goal

pub returns : goal.returns
returns c = record { history = is_history; stamp = stamp_exists; answers = stamp_answers; moment = stamp_began }
