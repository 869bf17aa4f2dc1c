use Rattle.std.proofs.Common.{◌≡◌}
use Rattle.acl_rows.specs.Opening.{opening_below}
use Rattle.acl_rows.specs.Tables.{state_of}
use Rattle.acl_rows.proofs.rows.Rows.hold_dynamic.Given as goal

abbrev pub invariant-loop-number : goal.invariant-loop-number
invariant-loop-number l = state_of l.self ≡ opening_below 31 l.number
