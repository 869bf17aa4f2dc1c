use Rattle.std.proofs.Common.{◌∙◌, ◌==◌, ap, refl}
use Rattle.std.specs.Prelude.{◌&&◌, not}
use Rattle.acl_stmt.specs.Requests.{is_request}
use Rattle.priv_sets.specs.StaticSet.{holds}
use Rattle.priv_items.proofs.Fits.{request_from_meant}
use Rattle.priv_items.proofs.Lists.{listed_without}
use Rattle.priv_items.proofs.WithoutOption.{meant_without, wrong_level-without}
use Rattle.priv_items.specs.Grants.{without_grant_option}
use Rattle.priv_items.proofs.request.granted_of.Goals as goal

pub invariant_of-result : goal.invariant_of-result
invariant_of-result c =
    record {
      listed = listed_without _ c.in_ok-privileges.field-0.privileges.plain _ _ _ c.in_ok-privileges.field-0.privileges.listed c.without.ensures.known
          (λ q. c.without.ensures.members q ∙ ap (λ option. not (q == option) && holds c.in_ok-privileges.field-0.privileges.plain q) c.grant_option-option.ensures);
    }

pub returns-clause-privileges : goal.returns-clause-privileges
returns-clause-privileges c =
    meant_without c.args.named.now c.in_ok-privileges.field-0.privileges _ c.in_ok-privileges.ensures.privileges refl
    (λ q. c.without.ensures.members q ∙ ap (λ option. not (q == option) && holds c.in_ok-privileges.field-0.privileges.plain q) c.grant_option-option.ensures) refl refl

pub returns-clause-request : goal.returns-clause-request
returns-clause-request c =
    ap (is_request _) c.in_ok-privileges.ensures.target
    ∙ request_from_meant (without_grant_option c.args.named.now) c.args.target _ (returns-clause-privileges c) (wrong_level-without c.args.named.now c.args.target c.in_ok-privileges.ensures.within)
