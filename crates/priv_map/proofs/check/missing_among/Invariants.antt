use Rattle.std.proofs.Common.{◌≡◌, None, take}
use Rattle.acl_model.specs.Verdict.{columns_from}
use Rattle.acl_rows.specs.Tables.{state_of}
use Rattle.priv_map.specs.Copies.{first_missing}
use Rattle.priv_map.proofs.check.missing_among.Given as goal

abbrev pub invariant-loop-place : goal.invariant-loop-place
invariant-loop-place l = first_missing l.acting (state_of l.rows) l.target (columns_from l.privilege 0 (take l.place l.names)) ≡ None
