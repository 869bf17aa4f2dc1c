use Rattle.serial_runs.proofs.Onward.{has_read_within, knows_onward, knows_within}
use Rattle.serial_runs.proofs.laws.nothing_is_read_back.Goals as goal

pub returns : goal.returns
returns c = record { within = knows_within; read = has_read_within; onward = knows_onward }
