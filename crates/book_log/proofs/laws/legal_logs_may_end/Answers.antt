use Rattle.std.proofs.Common.{length}
use Rattle.std.proofs.Math.Nat.{le_refl}
use Rattle.book_log.proofs.Ends.{ends_later}
use Rattle.book_log.proofs.laws.legal_logs_may_end.Goals as goal

pub returns : goal.returns
returns c = λ origin past legal. ends_later origin (length past) past (le_refl (length past)) legal
