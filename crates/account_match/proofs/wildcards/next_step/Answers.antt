use Rattle.std.proofs.Common.{sym, ◌∙◌}
use Rattle.account_match.proofs.Steps.{stuck_at_end, stuck_at_other}
use Rattle.account_match.proofs.wildcards.next_step.Goals as goal

pub returns-in_default-first_character : goal.returns-in_default-first_character
returns-in_default-first_character c = stuck_at_end _ _ _ _ c.in-Some.ensures c.if-sign-eq37.false c.in_default-first_character.ensures

pub returns-else-stands_for : goal.returns-else-stands_for
returns-else-stands_for c =
    stuck_at_other _ _ _ _ _ _ c.in-Some.ensures c.if-sign-eq37.false c.in-Some-first_character-2.ensures (sym c.stands_for.ensures ∙ c.if-stands_for.false)
