use Rattle.script_commands.proofs.OneOption.{option_once}
use Rattle.script_commands.proofs.laws.one_option_is_read.Goals as goal

pub returns : goal.returns
returns c = λ text made other place elsewhere h k. option_once text made other place elsewhere h k
