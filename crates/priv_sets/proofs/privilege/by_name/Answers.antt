use Rattle.std.proofs.Common.{ap, sym, refl, ◌∙◌, Some}
use Rattle.std.proofs.lemmas.Bool.{true≢false, lt-ltb}
use Rattle.priv_sets.specs.declared.privilege.Privilege.TheVariants.{Plain, Dynamic}
use Rattle.priv_sets.proofs.PrivilegeNames.{distinct_privileges, no_name}
use Rattle.priv_sets.proofs.privilege.by_name.Goals as goal

pub returns-in-Some-clause-only : goal.returns-in-Some-clause-only
returns-in-Some-clause-only c = λ p within same. ap Some (distinct_privileges (Plain c.in-Some.plain) p (lt-ltb c.in-Some.plain 31 c.in-Some.ensures.below) within (sym c.in-Some.ensures.found ∙ same))

pub returns-in-Some-clause-none : goal.returns-in-Some-clause-none
returns-in-Some-clause-none c = (λ odd. absurd (true≢false odd), λ unnamed. absurd (unnamed (Plain c.in-Some.plain) (lt-ltb c.in-Some.plain 31 c.in-Some.ensures.below) c.in-Some.ensures.found))

pub returns-in-None-clause-none : goal.returns-in-None-clause-none
returns-in-None-clause-none c =
    let dynamic = c.by_name-in-None.ensures.none in
    (λ none. no_name _ (c.in-None.ensures.none.0 refl) (dynamic.0 (sym c.map.ensures.variant ∙ none)), λ unnamed. c.map.ensures.variant ∙ dynamic.1 (λ p below. unnamed (Dynamic p) (lt-ltb p 20 below)))
