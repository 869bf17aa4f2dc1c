use Rattle.map_publish.specs.History.{entries_of}
use Rattle.script_run.proofs.Steps.{disconnects, not_connected}
use Rattle.script_run.proofs.seat.Seat.disconnect.Goals as goal

pub returns-in-None : goal.returns-in-None
returns-in-None c = not_connected (entries_of c.args.published.now) c.args.self.now c.in-None.is c.requires.sound

pub returns-in-Some : goal.returns-in-Some
returns-in-Some c = disconnects (entries_of c.args.published.now) c.args.self.now c.in-Some.field-0 c.in-Some.is c.requires.sound
