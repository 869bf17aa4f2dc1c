use Rattle.map_publish.specs.History.{entries_of}
use Rattle.script_run.proofs.Steps.{checks, no_memory_check, not_connected_check}
use Rattle.script_run.proofs.seat.Seat.check.Goals as goal

pub returns-in-None : goal.returns-in-None
returns-in-None c = not_connected_check (entries_of c.args.published.now) c.args.self.now c.args.request.now.privileges c.args.request.now.target c.in-None.is c.requires.sound

pub returns-in-Ok : goal.returns-in-Ok
returns-in-Ok c =
    checks (entries_of c.args.published.now) c.args.self.now c.in-Some.state c.args.request.now.privileges c.args.request.now.target c.in-Ok.answer c.length-self.result c.in-Some.is c.requires.sound c.in-Ok.ensures c.length-self.ensures

pub returns-in-Err : goal.returns-in-Err
returns-in-Err c = no_memory_check (entries_of c.args.published.now) c.args.self.now c.args.request.now.privileges c.args.request.now.target c.requires.sound
