use Rattle.std.proofs.Common.{◌∙◌, ap, sym, arith}
use Rattle.acl_model.specs.Verdict.{static_needs}
use Rattle.acl_rows.specs.Tables.{state_of}
use Rattle.priv_map.specs.Copies.{first_missing}
use Rattle.priv_map.proofs.Needs.{first_none, none_below_more, some_below}
use Rattle.priv_map.proofs.check.missing_static.Goals as goal

pub loop-number-init : goal.loop-number-init
loop-number-init c = first_none c.args.acting.now (state_of c.args.rows.now) c.args.request.now.target

pub returns-in-Some : goal.returns-in-Some
returns-in-Some c =
    sym (some_below c.args.acting.now (state_of c.args.rows.now) c.args.request.now.target (static_needs c.args.request.now.privileges c.args.request.now.target)
    c.loop-number.number c.in-Some.missing 31 c.loop-number.invariant
    (ap (λ p. first_missing c.args.acting.now (state_of c.args.rows.now) c.args.request.now.target (static_needs c.args.request.now.privileges c.args.request.now.target p)) (sym c.new.ensures)
    ∙ sym c.in-Some.ensures) (omega arith))

pub loop-number-preserved : goal.loop-number-preserved
loop-number-preserved c =
    none_below_more c.args.acting.now (state_of c.args.rows.now) c.args.request.now.target (static_needs c.args.request.now.privileges c.args.request.now.target)
    c.loop-number.number c.loop-number.invariant
    (ap (λ p. first_missing c.args.acting.now (state_of c.args.rows.now) c.args.request.now.target (static_needs c.args.request.now.privileges c.args.request.now.target p)) (sym c.new.ensures)
    ∙ sym c.in_default.ensures)
