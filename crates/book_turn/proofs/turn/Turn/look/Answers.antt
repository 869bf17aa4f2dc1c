use Rattle.std.proofs.Common.{rules}
use Rattle.book_turn.proofs.Keeps.{looks}
use Rattle.book_turn.proofs.turn.Turn.look.Goals as goal

pub load-requires : goal.load-requires
load-requires g c = let b = g.B.Logged in (search rules, search rules, looks b.log b.origin b.caller_of _ _ _)
