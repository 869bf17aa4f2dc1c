use Rattle.std.proofs.Common.{◌≡◌, ◌||◌, drop, take}
use Rattle.acl_model.specs.Refusals.{first_taken}
use Rattle.acl_model.specs.Rows.{lists}
use Rattle.acl_model.specs.State.{stands}
use Rattle.acl_rows.specs.Tables.{state_of}
use Rattle.acl_apply.proofs.create.first_taken.Given as goal

abbrev pub invariant-loop-i : goal.invariant-loop-i
invariant-loop-i l =
    first_taken (stands (state_of l.rows)) l.names
    ≡ first_taken (λ a. lists (take l.i l.names) a || stands (state_of l.rows) a) (drop l.i l.names)
