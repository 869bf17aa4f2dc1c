-- What each command asks for.
use Rattle.script_read.specs.declared.command.Command.{Command as Written}
use Rattle.script_read.specs.declared.command.Command.TheVariants as written
use Rattle.legal_runs.specs.Commands.{Command}
use Rattle.legal_runs.specs.Commands.Command.{Await, Check, Connect, Disconnect, Issue, SetRole, ShowGrants, UseSchema}

abbrev pub command_of : Written → Command
command_of (written.Connect user client verifier moment) = Connect (record { user = user; client = client; verifier = verifier; moment = moment })
command_of written.Disconnect = Disconnect
command_of (written.UseSchema schema) = UseSchema schema
command_of (written.SetRole form) = SetRole form
command_of (written.Check request) = Check request.privileges request.target
command_of (written.ShowGrants account roles) = ShowGrants account roles
command_of (written.Await length turns) = Await length turns
command_of (written.Statement statement) = Issue statement
