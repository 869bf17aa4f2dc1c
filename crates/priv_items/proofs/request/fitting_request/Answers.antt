use Rattle.std.proofs.Common.{◌∙◌, ap}
use Rattle.acl_stmt.specs.Requests.{is_request}
use Rattle.priv_items.proofs.Fits.{may_stand_from, request_from_meant}
use Rattle.priv_items.specs.Naming.{items_in}
use Rattle.priv_items.proofs.request.fitting_request.Goals as goal

pub gathered-requires-clause-levels : goal.gathered-requires-clause-levels
gathered-requires-clause-levels c = may_stand_from c.args.target (items_in c.args.named.now) c.requires.fits

pub invariant_of-result : goal.invariant_of-result
invariant_of-result c =
    record {
      fits = ap (is_request c.in_ok-privileges.privileges) c.in_ok-target.ensures.value
          ∙ request_from_meant c.args.named.now c.args.target c.in_ok-privileges.privileges c.in_ok-privileges.ensures c.requires.fits;
    }
