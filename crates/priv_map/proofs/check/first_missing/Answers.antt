use Rattle.std.proofs.Common.{◌∙◌, sym}
use Rattle.acl_model.specs.Verdict.{dynamic_needs, needs_below, static_needs}
use Rattle.acl_rows.specs.Tables.{state_of}
use Rattle.priv_map.proofs.Needs.{none_then, some_then}
use Rattle.priv_map.proofs.check.first_missing.Goals as goal

pub returns-in-Some : goal.returns-in-Some
returns-in-Some c =
    sym (some_then c.args.acting.now (state_of c.args.rows.now) c.args.request.now.target
    (needs_below (static_needs c.args.request.now.privileges c.args.request.now.target) 31)
    (needs_below (dynamic_needs c.args.request.now.privileges c.args.request.now.target) 20)
    c.in-Some.missing (sym c.in-Some.ensures))

pub returns : goal.returns
returns c =
    c.missing_dynamic.ensures (state_of c.args.rows.now)
    ∙ sym (none_then c.args.acting.now (state_of c.args.rows.now) c.args.request.now.target
    (needs_below (static_needs c.args.request.now.privileges c.args.request.now.target) 31)
    (needs_below (dynamic_needs c.args.request.now.privileges c.args.request.now.target) 20)
    (sym c.in_default.ensures))
