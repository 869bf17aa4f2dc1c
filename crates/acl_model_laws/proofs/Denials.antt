-- A request is denied for its first need that is not met.
use Rattle.std.proofs.Common.{◌≡◌, ◌≢◌, true, Option, Some, None, not, refl}
use Rattle.std.specs.List.{find}
use Rattle.std.specs.Option.{option_map}
use Rattle.acl_model_laws.proofs.FirstItems.{find_none, find_some}
use Rattle.acl_model.specs.Firsts.{HasNone, IsFirst}
use Rattle.acl_model.specs.Verdict.{Need, Readings, is_met, missing_of, needs_of, verdict_of}
use Rattle.acl_stmt.specs.declared.privileges.PrivList.{PrivList}
use Rattle.acl_stmt.specs.declared.refusal.Missing.{Missing}
use Rattle.acl_stmt.specs.declared.target.Target.{Target}

allowed_from : (readings : Readings) (target : Target) (found : Option Need) → option_map (missing_of readings target) found ≡ None → found ≡ None
allowed_from readings target None is = refl
allowed_from readings target (Some need) is = cc

pub allowed : (readings : Readings) (privileges : PrivList) (target : Target) → verdict_of readings privileges target ≡ None →
    HasNone (λ need. is_met readings target need ≢ true) (needs_of privileges target)
unfolding verdict_of
allowed readings privileges target is =
    find_none (is_met readings target) (needs_of privileges target)
    (allowed_from readings target (find (λ need. not (is_met readings target need)) (needs_of privileges target)) is)

denied_from : (readings : Readings) (target : Target) (missing : Missing) (found : Option Need) → option_map (missing_of readings target) found ≡ Some missing →
    (need : Need) × ((found ≡ Some need) × (missing ≡ missing_of readings target need))
denied_from readings target missing None is = cc
denied_from readings target missing (Some need) is = (need, (refl, cc))

pub denied : (readings : Readings) (privileges : PrivList) (target : Target) (missing : Missing) → verdict_of readings privileges target ≡ Some missing →
    (need : Need) × (IsFirst (λ need. is_met readings target need ≢ true) (needs_of privileges target) need × (missing ≡ missing_of readings target need))
unfolding verdict_of
denied readings privileges target missing is =
    let found = denied_from readings target missing (find (λ need. not (is_met readings target need)) (needs_of privileges target)) is in
    (found.0, (find_some (is_met readings target) (needs_of privileges target) found.0 found.1.0, found.1.1))
