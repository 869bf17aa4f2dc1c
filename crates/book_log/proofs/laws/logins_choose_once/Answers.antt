use Rattle.book_log.proofs.Chosen.{chosen_once}
use Rattle.book_log.proofs.Noting.{noted_once}
use Rattle.book_log.proofs.laws.logins_choose_once.Goals as goal

pub returns : goal.returns
returns c = record { one = chosen_once; log = noted_once }
