use Rattle.std.proofs.Common.{◌≡◌, ◌&&◌, drop, not, take}
use Rattle.acl_model.specs.Refusals.{first_gone}
use Rattle.acl_model.specs.Rows.{lists}
use Rattle.acl_model.specs.State.{stands}
use Rattle.acl_rows.specs.Tables.{state_of}
use Rattle.acl_apply.proofs.accounts.first_gone.Given as goal

abbrev pub invariant-loop-i : goal.invariant-loop-i
invariant-loop-i l =
    first_gone (stands (state_of l.rows)) l.names
    ≡ first_gone (λ a. not (lists (take l.i l.names) a) && stands (state_of l.rows) a) (drop l.i l.names)
