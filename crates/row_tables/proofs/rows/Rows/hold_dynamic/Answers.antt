use Rattle.std.proofs.Common.{◌∙◌, ap}
use Rattle.acl_names.specs.declared.auth.AuthId.{AuthId}
use Rattle.acl_model.specs.State.{root}
use Rattle.acl_model.specs.declared.row.Row.TheVariants.{Dynamic, DynamicGrant}
use Rattle.row_tables.specs.Changes.{with_row}
use Rattle.row_tables.specs.Tables.{state_of}
use Rattle.row_tables.proofs.Openings.{account_kept, dynamic_came, dynamic_next, root_stands}
use Rattle.row_tables.proofs.rows.Rows.hold_dynamic.Goals as goal

pub put-requires-clause-names : goal.put-requires-clause-names
put-requires-clause-names c = root_stands (state_of c.loop-number.self) 31 c.loop-number.number c.loop-number.invariant c.in_ok-root.field-0 c.in_ok-root.ensures

pub put-requires-in-loop-number-clause-names : goal.put-requires-in-loop-number-clause-names
put-requires-in-loop-number-clause-names c =
    account_kept (state_of c.put.new.self) (state_of c.loop-number.self) c.in_ok-root.field-0 c.loop-number.number c.put.ensures.state c.in_ok-root-2.field-0
    (root_stands (state_of c.loop-number.self) 31 c.loop-number.number c.loop-number.invariant c.in_ok-root-2.field-0 c.in_ok-root-2.ensures)

pub put-requires-in-loop-number-clause-ready : goal.put-requires-in-loop-number-clause-ready
put-requires-in-loop-number-clause-ready c =
    dynamic_came (state_of c.put.new.self) (state_of c.loop-number.self) c.in_ok-root.field-0 c.in_ok-root-2.field-0 c.loop-number.number c.put.ensures.state c.in_ok-root.ensures c.in_ok-root-2.ensures

pub loop-number-preserved : goal.loop-number-preserved
loop-number-preserved c =
    let n = c.loop-number.number in
    c.put-in-loop-number.ensures.state
    ∙ ap (λ (a : AuthId). with_row (DynamicGrant a n) (state_of c.put.new.self)) c.in_ok-root-2.ensures
    ∙ ap (with_row (DynamicGrant root n))
    (c.put.ensures.state ∙ ap (λ (a : AuthId). with_row (Dynamic a n) (state_of c.loop-number.self)) c.in_ok-root.ensures
    ∙ ap (with_row (Dynamic root n)) c.loop-number.invariant)
    ∙ dynamic_next 31 n
