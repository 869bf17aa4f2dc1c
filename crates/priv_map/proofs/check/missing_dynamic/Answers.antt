use Rattle.std.proofs.Common.{◌∙◌, ap, sym, arith}
use Rattle.acl_model.specs.Verdict.{dynamic_needs}
use Rattle.priv_map.specs.Copies.{first_missing}
use Rattle.priv_map.proofs.Needs.{first_none, none_below_more, some_below}
use Rattle.priv_map.proofs.check.missing_dynamic.Goals as goal

pub loop-number-init : goal.loop-number-init
loop-number-init c = λ now. first_none c.args.acting.now now c.args.request.now.target

pub returns-in-Some : goal.returns-in-Some
returns-in-Some c = λ now.
    sym (some_below c.args.acting.now now c.args.request.now.target (dynamic_needs c.args.request.now.privileges c.args.request.now.target)
    c.loop-number.number c.in-Some.missing 20 (c.loop-number.invariant now)
    (ap (λ p. first_missing c.args.acting.now now c.args.request.now.target (dynamic_needs c.args.request.now.privileges c.args.request.now.target p)) (sym c.new.ensures)
    ∙ sym (c.in-Some.ensures now)) (omega arith))

pub loop-number-preserved : goal.loop-number-preserved
loop-number-preserved c = λ now.
    none_below_more c.args.acting.now now c.args.request.now.target (dynamic_needs c.args.request.now.privileges c.args.request.now.target)
    c.loop-number.number (c.loop-number.invariant now)
    (ap (λ p. first_missing c.args.acting.now now c.args.request.now.target (dynamic_needs c.args.request.now.privileges c.args.request.now.target p)) (sym c.new.ensures)
    ∙ sym (c.in_default.ensures now))
