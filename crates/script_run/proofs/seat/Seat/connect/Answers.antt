use Rattle.std.proofs.Common.{None, refl}
use Rattle.map_publish.specs.History.{entries_of}
use Rattle.script_run.proofs.Entering.{enters, finds_none, no_memory_connect}
use Rattle.script_run.proofs.seat.Seat.connect.Goals as goal

pub returns-in-Ok-Some : goal.returns-in-Ok-Some
returns-in-Ok-Some c =
    enters (entries_of c.args.published.now) c.args.self.now
    (record { state = None; points = c.args.self.now.points; seen = c.args.self.now.seen; calls = c.args.self.now.calls }) c.enter.new.self c.args.user.now c.in-Ok-Some.entered c.enter.result c.requires.opened
    (rw c.in-Ok-Some.field-0-is at c.in-Ok-Some.ensures.chosen) c.enter.ensures.answer (rw c.in-Ok-Some.field-0-is at c.in-Ok-Some.ensures.entered) c.enter.ensures.seat refl c.requires.sound

pub returns-in-Ok-None : goal.returns-in-Ok-None
returns-in-Ok-None c = λ knock user_is empty.
    finds_none (entries_of c.args.published.now) c.args.self.now c.args.user.now (rw c.in-Ok-None.field-0-is at c.in-Ok-None.ensures.chosen) c.requires.sound knock user_is

pub returns-in-Err : goal.returns-in-Err
returns-in-Err c = λ knock user_is empty. no_memory_connect (entries_of c.args.published.now) c.args.self.now c.requires.sound knock
