use Rattle.legal_runs.proofs.Reports.{report_is_legal}
use Rattle.serial_runs.proofs.Whole.{serial_is_whole}
use Rattle.serial_runs.specs.Serial.{events_of, script_by}
use Rattle.session_rules.specs.Setting.{serial_setting}
use Rattle.session_rules.proofs.laws.script_runs_are_legal.Goals as goal

pub returns : goal.returns
returns c = λ sessions steps are_of run.
    report_is_legal serial_setting (script_by 0 sessions steps) (events_of serial_setting steps) (serial_is_whole serial_setting sessions steps are_of run)
