use Rattle.std.proofs.Common.{◌∙◌, ap, sym}
use Rattle.std.specs.List.{list_any}
use Rattle.acl_model.specs.Rows.{same_row}
use Rattle.acl_rows.specs.Tables.{state_of}
use Rattle.revoke_effects.proofs.Finding.{finds}
use Rattle.revoke_effects.proofs.found.finds_nothing.Goals as goal

pub returns : goal.returns
returns c =
    rw c.has_found.ensures
    (finds (state_of c.args.before.now) c.args.account.now c.as_slice.result.now (λ row. ap (list_any (same_row row)) c.as_slice.ensures ∙ c.in_ok-held.ensures.rows row)
    c.args.privileges.now c.args.target.now (sym c.is_global.ensures ∙ c.if-is_global.false))
