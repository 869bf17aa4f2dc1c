use Rattle.book_log.proofs.Fronts.{each_is_replied, front_is_legal}
use Rattle.book_log.proofs.laws.fronts_are_legal.Goals as goal

pub returns : goal.returns
returns c = record { front = front_is_legal; each = each_is_replied }
