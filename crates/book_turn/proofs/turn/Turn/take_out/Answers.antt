use Rattle.std.proofs.Common.{rules, Some}
use Rattle.book_turn.proofs.Calls.{one_held}
use Rattle.book_turn.proofs.turn.Turn.take_out.Goals as goal

pub exchange-requires : goal.exchange-requires
exchange-requires g c = (search rules, (Some c.requires.book.0, one_held _ _ c.requires.book.1))
