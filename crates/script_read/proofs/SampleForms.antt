-- A sample of forms of commands: only those that open and close a connection.
use Rattle.std.specs.Prelude.{Bool, true, false}
use Rattle.script_read.specs.declared.command.Command.{Command}
use Rattle.script_read.specs.declared.command.Command.TheVariants.{Connect, Disconnect}

abbrev pub is_connecting : Command → Bool
is_connecting (Connect user client verifier moment) = true
is_connecting Disconnect = true
is_connecting _ = false
