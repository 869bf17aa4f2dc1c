use Rattle.std.proofs.Common.{◌∙◌, ◌++◌, ◌<◌, ap, length, arith}
use Rattle.row_tables.specs.Tables.{state_of}
use Rattle.row_tables.proofs.RowsNaming.{naming_more}
use Rattle.row_tables.proofs.naming.rows_naming_any.Goals as goal

pub loop-account-preserved : goal.loop-account-preserved
loop-account-preserved c =
    let within : c.loop-account.account-index < length c.args.accounts.now = omega arith in
    naming_more (state_of c.args.rows.now) c.loop-account.found.items c.in_ok-rows_naming.field-0 c.add_all.new.rows.items c.args.accounts.now c.loop-account.account-index c.account-item.result within c.account-item.is
    (c.in_ok-add_all.ensures ∙ ap (λ rows. c.loop-account.found.items ++ rows) c.as_slice-in-loop-account.ensures) c.in_ok-rows_naming.ensures c.loop-account.invariant
