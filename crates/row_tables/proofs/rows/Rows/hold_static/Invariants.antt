use Rattle.std.proofs.Common.{◌≡◌}
use Rattle.row_tables.specs.Opening.{opening_below}
use Rattle.row_tables.specs.Tables.{state_of}
use Rattle.row_tables.proofs.rows.Rows.hold_static.Given as goal

abbrev pub invariant-loop-number : goal.invariant-loop-number
invariant-loop-number l = state_of l.self ≡ opening_below l.number 0
