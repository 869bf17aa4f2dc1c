use Rattle.script_read.specs.Written.{SpellsWritten, as_written}
use Rattle.script_read.proofs.Few.{written_few}
use Rattle.script_read.proofs.Placed.{syntax_placed}
use Rattle.script_read.proofs.reading.untimed_command.Goals as goal

pub command_of-requires : goal.command_of-requires
command_of-requires c = written_few c.args.text.now (as_written c.in-Ok.written) c.requires.short c.in-Ok.ensures.ok

pub returns-in-Err-clause-placed : goal.returns-in-Err-clause-placed
returns-in-Err-clause-placed c = syntax_placed SpellsWritten c.args.text.now c.in-Err.refusal c.utf8.text c.in-Err.ensures.err
