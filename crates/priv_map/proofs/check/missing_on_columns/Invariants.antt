use Rattle.std.proofs.Common.{◌≡◌, None, take}
use Rattle.acl_rows.specs.Tables.{state_of}
use Rattle.priv_map.specs.Copies.{columns_needs, first_missing}
use Rattle.priv_map.proofs.check.missing_on_columns.Given as goal

abbrev pub invariant-loop-columns : goal.invariant-loop-columns
invariant-loop-columns l = first_missing l.acting (state_of l.rows) l.request.target (columns_needs l.privilege (take l.columns-index l.request.privileges.columns)) ≡ None
