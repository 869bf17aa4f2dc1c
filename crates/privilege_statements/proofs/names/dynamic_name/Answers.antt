use Rattle.privilege_statements.proofs.NamedWords.{by_name_is_among}
use Rattle.privilege_statements.proofs.names.dynamic_name.Goals as goal

pub returns : goal.returns
returns c = by_name_is_among c.args.word.now c.by_name.result c.by_name.ensures.only c.by_name.ensures.none.1
