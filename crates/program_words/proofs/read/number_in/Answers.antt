use Rattle.std.proofs.Common.{◌∙◌, ap}
use Rattle.std.specs.Prelude.{option_and_then}
use Rattle.clap.specs.Matches.{found_of}
use Rattle.clap.proofs.WalkLemmas.{first_value-rows}
use Rattle.program_words.specs.Forms.{number_between}
use Rattle.program_words.proofs.read.number_in.Goals as goal

pub returns-in-Some : goal.returns-in-Some
returns-in-Some c =
    c.number_between.ensures ∙ ap (option_and_then (number_between c.args.least c.args.most))
    (c.in-Some.ensures ∙ first_value-rows (found_of c.args.operands.now) c.args.name.now)

pub returns-in-None : goal.returns-in-None
returns-in-None c =
    ap (option_and_then (number_between c.args.least c.args.most))
    (c.in-None.ensures ∙ first_value-rows (found_of c.args.operands.now) c.args.name.now)
