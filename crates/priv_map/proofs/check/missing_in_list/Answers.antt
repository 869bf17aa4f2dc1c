use Rattle.std.proofs.Common.{◌∙◌, sym}
use Rattle.acl_rows.specs.Tables.{state_of}
use Rattle.priv_map.proofs.Needs.{names_fit, other_list}
use Rattle.priv_map.proofs.check.missing_in_list.Goals as goal

pub returns-then-columns-number : goal.returns-then-columns-number
returns-then-columns-number c =
    sym (other_list c.args.acting.now (state_of c.args.rows.now) c.args.target.now c.args.privilege c.args.columns.now (λ same. c.if-columns-number.true (same ∙ sym c.number.ensures.same)))

pub missing_among-requires : goal.missing_among-requires
missing_among-requires c = names_fit c.args.columns.now c.as_slice.result.now c.as_slice.ensures
