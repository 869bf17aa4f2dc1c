use Rattle.numbered_rows.proofs.Numbers.{number_below, number_read}
use Rattle.row_tables.proofs.held.number_of.Goals as goal

pub returns-clause-is : goal.returns-clause-is
returns-clause-is c = number_read c.args.names.now.names c.args.account.now c.number_of.result c.number_of.ensures.number

pub returns-clause-within : goal.returns-clause-within
returns-clause-within c = number_below c.args.names.now.names c.args.account.now c.number_of.result (number_read c.args.names.now.names c.args.account.now c.number_of.result c.number_of.ensures.number)
