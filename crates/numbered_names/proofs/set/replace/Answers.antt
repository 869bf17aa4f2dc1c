use Rattle.std.proofs.Common.{◌∙◌, ap, length, arith}
use Rattle.std.proofs.lemmas.Grind.{common_steps}
use Rattle.numbered_names.proofs.Places.{replaced}
use Rattle.numbered_names.proofs.set.replace.Goals as goal

pub returns-clause-keys : goal.returns-clause-keys
returns-clause-keys g c =
    replaced c.swap_remove_index.result c.args.names.now.keys c.push.new.names.keys c.swap_remove_index.new.self.keys c.args.place c.args.name
    c.requires.place c.push.ensures.keys c.swap_remove_index.ensures.key c.swap_remove_index.ensures.keys

pub returns-clause-len : goal.returns-clause-len
returns-clause-len g c =
    ap length (replaced c.swap_remove_index.result c.args.names.now.keys c.push.new.names.keys c.swap_remove_index.new.self.keys c.args.place c.args.name
    c.requires.place c.push.ensures.keys c.swap_remove_index.ensures.key c.swap_remove_index.ensures.keys)
    ∙ grind (arith, common_steps)
