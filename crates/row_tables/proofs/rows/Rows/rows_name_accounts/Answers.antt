use Rattle.row_tables.proofs.Beside.{names_of_each}
use Rattle.row_tables.proofs.rows.Rows.rows_name_accounts.Goals as goal

pub returns : goal.returns
returns c = names_of_each c.args.self.now
