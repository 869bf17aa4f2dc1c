use Rattle.std.proofs.Common.{◌∙◌, ap, map, [], refl, arith}
use Rattle.line_answers.proofs.Filing.{under_way_first, under_way_next, under_way_seated, under_way_last}
use Rattle.line_answers.proofs.report.report_of.Goals as goal

pub loop-place-init : goal.loop-place-init
loop-place-init c = under_way_first _ _ _ _ (c.in_ok-sessions.ensures ∙ ap (map (λ name. (name, []))) c.into_vec.ensures) c.requires.seated (cc)

pub index_mut-session-requires : goal.index_mut-session-requires
index_mut-session-requires c =
    let within = under_way_seated _ _ _ _ _ c.loop-place.invariant c.in-Some.ensures.steps.0 in omega (arith, c.loop-place.sessions.ok.0)

pub loop-place-preserved : goal.loop-place-preserved
loop-place-preserved c =
    under_way_next _ _ _ _ _ _ _ c.loop-place.invariant c.in-Some.ensures.steps.0 c.index_mut-session.ensures.value refl c.in_ok-push.ensures.items

pub returns-clause-sessions : goal.returns-clause-sessions
returns-clause-sessions c =
    let ok = c.loop-place.place-iterator.rest.ok in under_way_last _ _ _ c.loop-place.invariant (omega (arith, c.in-None.ensures.steps.0, ok.0))
