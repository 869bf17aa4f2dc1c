use Rattle.std.proofs.Common.{◌∙◌, ◌||◌, nat_eq, not, ap, sym}
use Rattle.acl_stmt.specs.Requests.{all_below}
use Rattle.priv_sets.specs.Levels.{has_level}
use Rattle.priv_sets.specs.StaticSet.{holds}
use Rattle.priv_sets.specs.declared.level.Level.TheVariants.{Schema}
use Rattle.entry_fields.proofs.Tests.{limit_is, no_limit, none_is, none_missing, present}
use Rattle.entry_fields.proofs.rules.may_restrict.Goals as goal

pub returns-then-bits-ne0 : goal.returns-then-bits-ne0
returns-then-bits-ne0 c =
    none_is c.first_missing.result c.is_none.result (all_below 31 (λ number. not (holds c.args.privileges number) || has_level Schema number)) c.is_none.ensures
    (none_missing c.first_missing.result c.args.privileges c.at_level-schema_level.result
    (λ number. not (holds c.args.privileges number) || has_level Schema number)
    c.first_missing.ensures.none
    (λ q lt. present (holds c.args.privileges q) (holds c.at_level-schema_level.result q) ∙ ap (λ b. not (holds c.args.privileges q) || b) (c.at_level-schema_level.ensures.members q)))
    ∙ limit_is c.args.privileges c.requires (λ none. c.if-bits-ne0.true (c.bits.ensures ∙ none))

pub returns-else-bits-ne0 : goal.returns-else-bits-ne0
returns-else-bits-ne0 c =
    ap (λ n. not (nat_eq n 0)) c.if-bits-ne0.false ∙ no_limit c.args.privileges (sym c.bits.ensures ∙ c.if-bits-ne0.false)
