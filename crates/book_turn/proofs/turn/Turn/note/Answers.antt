use Rattle.std.proofs.Common.{rules}
use Rattle.book_turn.proofs.Keeps.{copies}
use Rattle.book_turn.proofs.turn.Turn.note.Goals as goal

pub split_seat-requires : goal.split_seat-requires
split_seat-requires g c = let b = g.B.Logged in (search rules, search rules, copies b.log b.origin b.caller_of _ _)
