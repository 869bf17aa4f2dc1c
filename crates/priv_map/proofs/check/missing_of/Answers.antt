use Rattle.std.proofs.Common.{◌∙◌, ap, sym, Some}
use Rattle.acl_rows.specs.Tables.{state_of}
use Rattle.priv_map.proofs.Needs.{static_lacking, static_there}
use Rattle.priv_map.proofs.check.missing_of.Goals as goal

pub returns-then-lacks_static : goal.returns-then-lacks_static
returns-then-lacks_static c =
    ap Some c.missing.ensures
    ∙ sym (static_lacking c.args.acting.now (state_of c.args.rows.now) c.args.request.now.target c.args.request.now.privileges c.args.privilege c.lacks_static.result c.lacks_static.ensures c.if-lacks_static.true)

pub returns : goal.returns
returns c =
    c.missing_on_columns.ensures
    ∙ sym (static_there c.args.acting.now (state_of c.args.rows.now) c.args.request.now.target c.args.request.now.privileges c.args.privilege c.lacks_static.result c.lacks_static.ensures c.if-lacks_static.false)
