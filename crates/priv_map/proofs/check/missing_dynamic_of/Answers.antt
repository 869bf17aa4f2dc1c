use Rattle.std.proofs.Common.{◌∙◌, ap, sym, Some}
use Rattle.priv_map.proofs.Needs.{dynamic_lacking, dynamic_there}
use Rattle.priv_map.proofs.check.missing_dynamic_of.Goals as goal

pub returns-then-lacks_dynamic : goal.returns-then-lacks_dynamic
returns-then-lacks_dynamic c = λ now.
    ap Some c.missing.ensures
    ∙ sym (dynamic_lacking c.args.acting.now now c.args.request.now.target c.args.request.now.privileges c.args.privilege c.lacks_dynamic.result c.lacks_dynamic.ensures c.if-lacks_dynamic.true)

pub returns : goal.returns
returns c = λ now.
    sym (dynamic_there c.args.acting.now now c.args.request.now.target c.args.request.now.privileges c.args.privilege c.lacks_dynamic.result c.lacks_dynamic.ensures c.if-lacks_dynamic.false)
