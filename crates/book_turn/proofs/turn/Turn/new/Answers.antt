use Rattle.book_turn.proofs.Keeps.{opens}
use Rattle.book_turn.proofs.turn.Turn.new.Goals as goal

pub vacant-requires : goal.vacant-requires
vacant-requires g c = let b = g.B.Logged in opens b.log b.origin b.caller_of
