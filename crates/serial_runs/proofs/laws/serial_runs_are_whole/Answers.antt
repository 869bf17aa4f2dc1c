use Rattle.legal_runs.proofs.Reports.{report_is_legal}
use Rattle.serial_runs.proofs.Whole.{serial_is_whole}
use Rattle.serial_runs.specs.Serial.{events_of, script_by}
use Rattle.serial_runs.proofs.laws.serial_runs_are_whole.Goals as goal

pub returns : goal.returns
returns c = record {
  whole = serial_is_whole;
  legal = λ on sessions steps are_of run. report_is_legal on (script_by 0 sessions steps) (events_of on steps) (serial_is_whole on sessions steps are_of run);
}
