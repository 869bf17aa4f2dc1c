use Rattle.std.proofs.Common.{sym}
use Rattle.acl_rows.specs.Tables.{state_of}
use Rattle.priv_map.proofs.Needs.{first_none, none_in_lists, some_in_lists}
use Rattle.priv_map.proofs.check.missing_on_columns.Goals as goal

pub loop-columns-init : goal.loop-columns-init
loop-columns-init c = first_none c.args.acting.now (state_of c.args.rows.now) c.args.request.now.target

pub returns-in-Some : goal.returns-in-Some
returns-in-Some c =
    sym (some_in_lists c.args.acting.now (state_of c.args.rows.now) c.args.request.now.target c.args.privilege c.args.request.now.privileges.columns
    c.as_slice-columns-items.result.now c.as_slice-columns-items.ensures c.loop-columns.columns-index c.columns-item.result c.in-Some.missing
    c.loop-columns-test.true c.columns-item.is c.loop-columns.invariant (sym c.in-Some.ensures))

pub loop-columns-preserved : goal.loop-columns-preserved
loop-columns-preserved c =
    none_in_lists c.args.acting.now (state_of c.args.rows.now) c.args.request.now.target c.args.privilege c.args.request.now.privileges.columns
    c.as_slice-columns-items.result.now c.as_slice-columns-items.ensures c.loop-columns.columns-index c.columns-item.result
    c.loop-columns-test.true c.columns-item.is c.loop-columns.invariant (sym c.in_default.ensures)
