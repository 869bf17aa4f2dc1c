use Rattle.std.proofs.Common.{◌∙◌, refl, sym}
use Rattle.std.proofs.lemmas.Bool.{true≢false}
use Rattle.priv_map.proofs.LimitLists.{limit_from}
use Rattle.priv_map.specs.Restricted.AddsLimit.{Adds}
use Rattle.priv_map.proofs.restrictions.add_limit.Goals as goal

pub invariant_of-push : goal.invariant_of-push
invariant_of-push c = record { restricts = limit_from c.args.privileges c.requires.known (λ none. true≢false (sym (c.is_empty.ensures.1 none) ∙ c.if-is_empty.false)) c.requires.level }

pub returns : goal.returns
returns c = Adds _ c.in_ok-schema.ensures refl c.in_ok-push.ensures.ok
