use Rattle.std.proofs.Common.{subst}
use Rattle.acl_model.specs.Counts.{IsExceeded}
use Rattle.acl_model.specs.Acceptance.{limits_in_order}
use Rattle.acl_model.specs.Firsts.{HasNone}
use Rattle.acl_apply.proofs.apply.prepare.Goals as goal

pub returns-clause-prepared : goal.returns-clause-prepared
returns-clause-prepared c = record {
  entry = c.args.entry.now;
  accepted = record {
    feasible = c.in_ok-changed.ensures.feasible;
    within = subst (λ state. HasNone (IsExceeded state) limits_in_order) c.in_ok-changed.ensures.changed c.in_ok-within_limits.ensures.ok;
  };
  changed = c.in_ok-changed.ensures.changed;
}
