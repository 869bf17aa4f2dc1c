use Rattle.legal_runs.proofs.Reports.{report_is_legal}
use Rattle.legal_runs.proofs.laws.runs_are_legal.Goals as goal

pub returns : goal.returns
returns c = report_is_legal
