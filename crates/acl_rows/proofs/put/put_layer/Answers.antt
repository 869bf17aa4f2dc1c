use Rattle.std.proofs.Common.{◌∙◌, ◌<◌, length, sym, arith}
use Rattle.acl_rows.specs.Tables.{state_of}
use Rattle.acl_rows.specs.Layers.{is_in}
use Rattle.acl_rows.proofs.Coming.{puts_more, ready_at, ready_copy, ready_for, with_none}
use Rattle.acl_rows.proofs.put.put_layer.Goals as goal

pub loop-row-init : goal.loop-row-init
loop-row-init c = with_none (state_of c.args.rows.now)

pub put-requires-clause-names : goal.put-requires-clause-names
put-requires-clause-names c =
    let within : c.loop-row.row-index < length c.args.come.now = omega arith in
    (ready_copy (state_of c.loop-row.rows) c.row-item.result c.in_ok-copy.field-0 c.in_ok-copy.ensures
    (ready_at (state_of c.args.rows.now) (state_of c.loop-row.rows) (is_in c.args.layer) c.args.come.now c.loop-row.row-index c.row-item.result c.requires within c.row-item.is
    (sym c.is_in.ensures ∙ c.if-not-is_in.false) c.loop-row.invariant)).names

pub put-requires-clause-level : goal.put-requires-clause-level
put-requires-clause-level c =
    let within : c.loop-row.row-index < length c.args.come.now = omega arith in
    (ready_copy (state_of c.loop-row.rows) c.row-item.result c.in_ok-copy.field-0 c.in_ok-copy.ensures
    (ready_at (state_of c.args.rows.now) (state_of c.loop-row.rows) (is_in c.args.layer) c.args.come.now c.loop-row.row-index c.row-item.result c.requires within c.row-item.is
    (sym c.is_in.ensures ∙ c.if-not-is_in.false) c.loop-row.invariant)).level

pub put-requires-clause-ready : goal.put-requires-clause-ready
put-requires-clause-ready c =
    let within : c.loop-row.row-index < length c.args.come.now = omega arith in
    ready_for (state_of c.loop-row.rows) c.in_ok-copy.field-0
    (ready_copy (state_of c.loop-row.rows) c.row-item.result c.in_ok-copy.field-0 c.in_ok-copy.ensures
    (ready_at (state_of c.args.rows.now) (state_of c.loop-row.rows) (is_in c.args.layer) c.args.come.now c.loop-row.row-index c.row-item.result c.requires within c.row-item.is
    (sym c.is_in.ensures ∙ c.if-not-is_in.false) c.loop-row.invariant)).basis

pub loop-row-preserved : goal.loop-row-preserved
loop-row-preserved c =
    let within : c.loop-row.row-index < length c.args.come.now = omega arith in
    puts_more (state_of c.args.rows.now) (state_of c.loop-row.rows) (state_of c.put.new.self) (is_in c.args.layer) c.args.come.now c.loop-row.row-index c.row-item.result c.in_ok-copy.field-0 within c.row-item.is
    (sym c.is_in.ensures ∙ c.if-not-is_in.false)
    (ready_at (state_of c.args.rows.now) (state_of c.loop-row.rows) (is_in c.args.layer) c.args.come.now c.loop-row.row-index c.row-item.result c.requires within c.row-item.is
    (sym c.is_in.ensures ∙ c.if-not-is_in.false) c.loop-row.invariant)
    c.in_ok-copy.ensures c.in_ok-put.ensures.ok c.loop-row.invariant
