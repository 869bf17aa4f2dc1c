use Rattle.std.proofs.Common.{sym, ◌∙◌, subst}
use Rattle.std.proofs.lemmas.List.{get_or_read}
use Rattle.account_match.proofs.Chosen.{chosen_at}
use Rattle.account_match.specs.Choice.{Admits}
use Rattle.account_match.specs.declared.listed.Listed.{Listed}
use Rattle.account_match.proofs.choice.choose.Goals as goal

pub returns-then-is_admitted : goal.returns-then-is_admitted
returns-then-is_admitted c =
    chosen_at _ _ _ _ c.requires c.loop-place-test.true
    (λ d. subst (λ (x : Listed). Admits c.args.user.now c.args.client.now x)
    (get_or_read c.args.sorted.now c.loop-place.place c.index-sorted-place.result c.loop-place-test.true c.index-sorted-place.is d)
    (sym c.is_admitted.ensures ∙ c.if-is_admitted.true))
    c.loop-place.invariant
