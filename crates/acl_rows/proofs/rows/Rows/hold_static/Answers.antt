use Rattle.std.proofs.Common.{◌∙◌, ap}
use Rattle.acl_names.specs.declared.auth.AuthId.{AuthId}
use Rattle.acl_model.specs.State.{root}
use Rattle.acl_model.specs.declared.row.Row.TheVariants.{Global}
use Rattle.acl_rows.specs.Changes.{with_row}
use Rattle.acl_rows.specs.Tables.{state_of}
use Rattle.acl_rows.proofs.Openings.{static_next}
use Rattle.acl_rows.proofs.rows.Rows.hold_static.Goals as goal

pub loop-number-preserved : goal.loop-number-preserved
loop-number-preserved c =
    let n = c.loop-number.number in
    c.in_ok-insert.ensures.ok ∙ ap (λ (a : AuthId). with_row (Global a n) (state_of c.loop-number.self)) c.in_ok-root.ensures
    ∙ ap (with_row (Global root n)) c.loop-number.invariant ∙ static_next n 0
