use Rattle.std.proofs.Common.{◌≡◌, None}
use Rattle.acl_model.specs.Verdict.{needs_below, static_needs}
use Rattle.acl_rows.specs.Tables.{state_of}
use Rattle.priv_map.specs.Copies.{first_missing}
use Rattle.priv_map.proofs.check.missing_static.Given as goal

abbrev pub invariant-loop-number : goal.invariant-loop-number
invariant-loop-number l = first_missing l.acting (state_of l.rows) l.request.target (needs_below (static_needs l.request.privileges l.request.target) l.number) ≡ None
