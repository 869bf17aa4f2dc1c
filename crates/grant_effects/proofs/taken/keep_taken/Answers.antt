use Rattle.std.proofs.Common.{rules}
use Rattle.std.proofs.lemmas.Fn.{filter_same}
use Rattle.grant_effects.specs.Taken.{taken_of}
use Rattle.grant_effects.proofs.taken.keep_taken.Goals as goal

pub returns : goal.returns
returns c = filter_same _ (taken_of c.args.limits.now c.args.grant.now.privileges.now c.args.grant.now.target.now c.args.grant.now.with_grant_option) _ (λ x b f k. search rules) _ _ c.retain.ensures.filtered
