use Rattle.std.proofs.Common.{◌∙◌, ap, sym, Some}
use Rattle.map_publish.specs.History.{entries_of}
use Rattle.script_run.proofs.Steps.{no_memory_use, not_connected_use, uses}
use Rattle.script_run.proofs.seat.Seat.use_schema.Goals as goal

pub returns-in-None : goal.returns-in-None
returns-in-None c = not_connected_use (entries_of c.args.published.now) c.args.self.now c.args.schema.now c.in-None.is c.requires.sound

pub returns-in-Ok : goal.returns-in-Ok
returns-in-Ok c =
    uses (entries_of c.args.published.now) c.args.self.now c.in-Some.state c.choose_schema.new.state c.args.schema.now c.in-Ok.name c.points-self.result c.length-self.result c.in-Some.is c.requires.sound
    c.in-Ok.ensures.name c.in-Ok.ensures.used c.in-Ok.ensures.read c.points-self.ensures c.length-self.ensures

pub returns-in-Err : goal.returns-in-Err
returns-in-Err c = no_memory_use (entries_of c.args.published.now) c.args.self.now _ c.args.schema.now (λ i. record { state = (ap Some c.in-Err.ensures.err ∙ sym c.in-Some.is) i; points = c.args.self.now.points; seen = c.args.self.now.seen; calls = c.args.self.now.calls }) c.requires.sound
