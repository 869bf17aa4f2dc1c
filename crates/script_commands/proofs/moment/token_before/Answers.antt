use Rattle.std.proofs.Common.{◌-◌, length, ◌∙◌, arith}
use Rattle.script_commands.proofs.Moments.{split_place}
use Rattle.script_commands.proofs.moment.token_before.Goals as goal

pub returns : goal.returns
returns c =
    let k = split_place c.args.tokens.now (length c.args.tokens.now - 1 - c.args.left) _ (omega (arith, c.requires)) in
    (k.0, k.1, k.2, k.3 ∙ omega (arith, c.requires))
