use Rattle.std.proofs.Common.{refl}
use Rattle.script_read.proofs.reading.read_command.Goals as goal

pub untimed_command-requires-clause-no_option : goal.untimed_command-requires-clause-no_option
untimed_command-requires-clause-no_option c = (rw c.in-Ok-None.field-0-is at c.in-Ok-None.ensures.none) refl
