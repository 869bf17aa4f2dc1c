use Rattle.legal_runs.proofs.Calls.{calls_are_counted}
use Rattle.legal_runs.proofs.Answered.{session_calls}
use Rattle.legal_runs.proofs.laws.lines_call_once.Goals as goal

pub returns : goal.returns
returns c = record { line = calls_are_counted; session = session_calls }
