use Rattle.legal_runs.proofs.Told.{goes_onward, told_since}
use Rattle.legal_runs.proofs.laws.legal_sessions_go_onward.Goals as goal

pub returns : goal.returns
returns c = record { onward = goes_onward; told = told_since }
