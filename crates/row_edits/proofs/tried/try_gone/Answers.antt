use Rattle.row_edits.proofs.Trials.{only_gone}
use Rattle.row_tables.specs.Tables.{state_of}
use Rattle.row_edits.specs.Edits.{edited}
use Rattle.row_edits.proofs.tried.try_gone.Goals as goal

pub returns-clause-change : goal.returns-clause-change
unfolding edited
returns-clause-change c = only_gone (state_of c.args.rows.now) c.args.gone.items c.new.result.items c.new-2.result.items c.new.ensures.items c.new-2.ensures.items
