use Rattle.std.proofs.Common.{rules}
use Rattle.acl_rows.specs.Tables.{state_of}
use Rattle.acl_rows.proofs.Lookups.{stands_from_data}
use Rattle.acl_rows.proofs.rows.Rows.account.Goals as goal

pub returns-clause-stands : goal.returns-clause-stands
unfolding state_of
returns-clause-stands c = stands_from_data c.find_data.result c.args.self.now.accounts c.args.account.now (search rules)
