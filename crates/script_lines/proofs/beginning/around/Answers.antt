use Rattle.std.proofs.lemmas.Str.Pattern.{split_after}
use Rattle.script_lines.proofs.Fronts.{some_and}
use Rattle.script_lines.proofs.beginning.around.Goals as goal

pub returns-clause-only : goal.returns-clause-only
returns-clause-only c front rest split absent =
    some_and c.split_once.result _ (split_after _ _ front rest _ c.split_once.ensures.cases c.requires split absent)
