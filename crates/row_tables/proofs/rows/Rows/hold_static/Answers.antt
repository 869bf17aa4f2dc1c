use Rattle.std.proofs.Common.{◌∙◌, ap}
use Rattle.acl_names.specs.declared.auth.AuthId.{AuthId}
use Rattle.acl_model.specs.State.{root}
use Rattle.acl_model.specs.declared.row.Row.TheVariants.{Global}
use Rattle.row_tables.specs.Changes.{with_row}
use Rattle.row_tables.specs.Tables.{state_of}
use Rattle.row_tables.proofs.Openings.{global_level, root_stands, static_next}
use Rattle.row_tables.proofs.rows.Rows.hold_static.Goals as goal

pub put-requires-clause-names : goal.put-requires-clause-names
put-requires-clause-names c = root_stands (state_of c.loop-number.self) c.loop-number.number 0 c.loop-number.invariant c.in_ok-root.field-0 c.in_ok-root.ensures

pub put-requires-clause-level : goal.put-requires-clause-level
put-requires-clause-level c = global_level c.loop-number.number c.loop-number-test.true

pub loop-number-preserved : goal.loop-number-preserved
loop-number-preserved c =
    let n = c.loop-number.number in
    c.put.ensures.state ∙ ap (λ (a : AuthId). with_row (Global a n) (state_of c.loop-number.self)) c.in_ok-root.ensures
    ∙ ap (with_row (Global root n)) c.loop-number.invariant ∙ static_next n 0
