use Rattle.legal_runs.proofs.Answered.{never_falls, told_before}
use Rattle.legal_runs.proofs.laws.answers_go_onward.Goals as goal

pub returns : goal.returns
returns c = record { onward = never_falls; told = told_before }
