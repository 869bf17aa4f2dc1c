use Rattle.std.proofs.Common.{◌∙◌, ap}
use Rattle.acl_names.specs.declared.auth.AuthId.{AuthId}
use Rattle.acl_model.specs.State.{root}
use Rattle.acl_model.specs.declared.row.Row.TheVariants.{Dynamic, DynamicGrant}
use Rattle.acl_rows.specs.Changes.{with_row}
use Rattle.acl_rows.specs.Tables.{state_of}
use Rattle.acl_rows.proofs.Openings.{dynamic_next}
use Rattle.acl_rows.proofs.rows.Rows.hold_dynamic.Goals as goal

pub loop-number-preserved : goal.loop-number-preserved
loop-number-preserved c =
    let n = c.loop-number.number in
    c.in_ok-insert-2.ensures.ok
    ∙ ap (λ (a : AuthId). with_row (DynamicGrant a n) (state_of c.insert.new.self)) c.in_ok-root-2.ensures
    ∙ ap (with_row (DynamicGrant root n))
    (c.in_ok-insert.ensures.ok ∙ ap (λ (a : AuthId). with_row (Dynamic a n) (state_of c.loop-number.self)) c.in_ok-root.ensures
    ∙ ap (with_row (Dynamic root n)) c.loop-number.invariant)
    ∙ dynamic_next 31 n
