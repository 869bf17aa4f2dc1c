use Rattle.std.proofs.Common.{◌≡◌, take, arith}
use Rattle.script_commands.proofs.Fronts.{cut_front}
use Rattle.script_commands.proofs.moment.timed_connect.Goals as goal

pub timed_in-requires-clause-front : goal.timed_in-requires-clause-front
timed_in-requires-clause-front c =
    let front : c.range.result.now ≡ take c.in_ok-length.length c.args.text.now = grind (arith, c.range.ensures.value) in
    cut_front c.args.text.now c.range.result.now c.in_ok-length.length front c.in_ok-length.ensures.front
