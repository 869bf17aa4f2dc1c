use Rattle.std.proofs.Common.{◌≡◌, false, true, arith}
use Rattle.row_tables.specs.Tables.{state_of}
use Rattle.account_edits.proofs.Renaming.{may_be, unknown}
use Rattle.account_edits.proofs.rename.rename_user.Goals as goal

pub returns-clause-step : goal.returns-clause-step
returns-clause-step c =
    let there : c.is_standing.result ≡ true = grind arith in
    let fresh : c.is_standing-2.result ≡ false = grind arith in
    may_be (state_of c.args.rows.now) c.args.old.now c.args.new.now c.is_standing.result c.is_standing-2.result c.is_standing.ensures c.is_standing-2.ensures there fresh
    c.rows_name_accounts.ensures (unknown c.args.rows.now)
