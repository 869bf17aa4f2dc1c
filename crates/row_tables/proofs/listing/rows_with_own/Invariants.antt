use Rattle.std.proofs.Common.{◌≡◌, map, take}
use Rattle.numbered_rows.specs.NamedRows.{row_of}
use Rattle.row_tables.proofs.listing.rows_with_own.Given as goal

abbrev pub invariant-loop-holding : goal.invariant-loop-holding
invariant-loop-holding l = l.rows.items ≡ map (row_of l.names.names) (take l.holding-index l.held)
