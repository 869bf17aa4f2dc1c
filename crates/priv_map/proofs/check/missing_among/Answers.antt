use Rattle.std.proofs.Common.{◌≡◌, ◌∙◌, ap, sym, true, false, Some, arith}
use Rattle.acl_rows.specs.Tables.{state_of}
use Rattle.priv_map.proofs.Needs.{first_none, met_on_column, none_in_columns, some_in_columns}
use Rattle.priv_map.proofs.check.missing_among.Goals as goal

pub loop-place-init : goal.loop-place-init
loop-place-init c = first_none c.args.acting.now (state_of c.args.rows.now) c.args.target.now

pub returns-then-not-is_met : goal.returns-then-not-is_met
returns-then-not-is_met c =
    let unmet : c.is_met.result ≡ false = grind arith in
    ap Some c.missing.ensures
    ∙ sym (some_in_columns c.args.acting.now (state_of c.args.rows.now) c.args.target.now c.args.privilege c.args.names.now c.loop-place.place c.index-names-place.result
    (omega arith) c.index-names-place.is c.loop-place.invariant
    (met_on_column c.args.acting.now (state_of c.args.rows.now) c.args.target.now c.args.privilege c.loop-place.place c.index-names-place.result c.is_met.result c.is_met.ensures ∙ unmet))

pub loop-place-preserved : goal.loop-place-preserved
loop-place-preserved c =
    let met : c.is_met.result ≡ true = grind arith in
    none_in_columns c.args.acting.now (state_of c.args.rows.now) c.args.target.now c.args.privilege c.args.names.now c.loop-place.place c.index-names-place.result
    (omega arith) c.index-names-place.is c.loop-place.invariant
    (met_on_column c.args.acting.now (state_of c.args.rows.now) c.args.target.now c.args.privilege c.loop-place.place c.index-names-place.result c.is_met.result c.is_met.ensures ∙ met)
