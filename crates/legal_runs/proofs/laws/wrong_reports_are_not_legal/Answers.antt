use Rattle.legal_runs.proofs.Wrong.{not_behind, not_fallen, not_later, not_lost, not_skipped, not_twice}
use Rattle.legal_runs.proofs.laws.wrong_reports_are_not_legal.Goals as goal

pub returns : goal.returns
returns c = record { twice = not_twice; lost = not_lost; gap = not_skipped; falls = not_fallen; behind = not_behind; later = not_later }
