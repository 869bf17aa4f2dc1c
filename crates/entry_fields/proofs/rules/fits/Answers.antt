use Rattle.std.proofs.Common.{◌∙◌, ◌||◌, not, ap}
use Rattle.acl_stmt.specs.Entries.{limits_fit, names_globally}
use Rattle.priv_sets.specs.StaticSet.{holds}
use Rattle.entry_fields.proofs.Tests.{none_is, none_missing, present}
use Rattle.entry_fields.proofs.rules.fits.Goals as goal

pub returns : goal.returns
returns c =
    none_is c.first_missing.result c.is_none.result (limits_fit c.args.privileges.now c.args.limit.now) c.is_none.ensures
    (none_missing c.first_missing.result c.args.limit.now.privileges c.given_globally.result
    (λ number. not (holds c.args.limit.now.privileges number) || names_globally c.args.privileges.now number)
    c.first_missing.ensures.none
    (λ q lt. present (holds c.args.limit.now.privileges q) (holds c.given_globally.result q) ∙ ap (λ b. not (holds c.args.limit.now.privileges q) || b) (c.given_globally.ensures q lt)))
