use Rattle.std.proofs.Common.{◌∙◌, ◌==◌, ◌||◌, not, ap}
use Rattle.priv_sets.specs.Levels.{grant_option, has_level}
use Rattle.priv_sets.specs.StaticSet.{holds}
use Rattle.priv_sets.specs.declared.level.Level.TheVariants.{Global}
use Rattle.entry_fields.proofs.Tests.{below_all_levels, with_no_level}
use Rattle.entry_fields.proofs.rules.given_globally.Goals as goal

pub returns-then-privileges : goal.returns-then-privileges
returns-then-privileges c =
    λ q lt.
    c.union.ensures.members q
    ∙ ap (λ b. b || holds c.args.privileges.now.plain q) (c.all_at_level.ensures.members q)
    ∙ with_no_level (not (q == grant_option)) (has_level Global q) (holds c.args.privileges.now.plain q) c.args.privileges.now.all (below_all_levels q lt) c.if-privileges.true
