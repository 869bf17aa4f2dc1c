use Rattle.std.proofs.Common.{◌≡◌, None}
use Rattle.acl_model.specs.State.{State}
use Rattle.acl_model.specs.Verdict.{dynamic_needs, needs_below}
use Rattle.priv_map.specs.Copies.{first_missing}
use Rattle.priv_map.proofs.check.missing_dynamic.Given as goal

abbrev pub invariant-loop-number : goal.invariant-loop-number
invariant-loop-number l = (now : State) → first_missing l.acting now l.request.target (needs_below (dynamic_needs l.request.privileges l.request.target) l.number) ≡ None
