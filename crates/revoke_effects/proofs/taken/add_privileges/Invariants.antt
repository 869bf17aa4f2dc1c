use Rattle.std.proofs.Common.{◌≡◌, ◌++◌, filter, take}
use Rattle.acl_model.specs.Rows.{is_privilege_row}
use Rattle.revoke_effects.proofs.taken.add_privileges.Given as goal

abbrev pub invariant-loop-row : goal.invariant-loop-row
invariant-loop-row l = l.taken.items ≡ l.initial.taken.items ++ filter is_privilege_row (take l.row-index l.held)
