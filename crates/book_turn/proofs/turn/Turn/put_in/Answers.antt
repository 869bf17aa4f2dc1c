use Rattle.std.proofs.Common.{rules, None}
use Rattle.book_turn.proofs.Calls.{one_held}
use Rattle.book_turn.proofs.turn.Turn.put_in.Goals as goal

pub exchange-before-requires : goal.exchange-before-requires
exchange-before-requires g c = (search rules, (None, one_held _ _ c.requires.empty))
