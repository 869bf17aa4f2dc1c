use Rattle.copied_levels.proofs.Checks.{answered_by_copies, same_verdict}
use Rattle.copied_levels.proofs.laws.checks_go_by_copies.Goals as goal

pub returns : goal.returns
returns c = record { verdict = same_verdict; answer = answered_by_copies }
