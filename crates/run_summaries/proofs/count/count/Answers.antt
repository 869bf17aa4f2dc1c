use Rattle.std.proofs.Common.{◌≡◌, ◌∙◌, ◌+◌, ap, ap₂, sym, arith, rules}
use Rattle.std.specs.List.{count_by}
use Rattle.run_summaries.specs.Counts.{is_of_sort}
use Rattle.run_summaries.proofs.CountSteps.{session_more}
use Rattle.run_summaries.proofs.count.count.Goals as goal

pub loop-session-preserved : goal.loop-session-preserved
loop-session-preserved c =
    let more = session_more (λ told. is_of_sort c.args.sort told.answer) (λ session. session.answers.items) c.deref-session-items.result.now
    c.loop-session.session-index c.session-item.result (search rules) in
    let here = c.count_in-here.ensures ∙ ap (count_by (λ told. is_of_sort c.args.sort told.answer)) (c.deref.ensures.value ∙ ap (λ session. session.answers.items) c.session-item.is) in
    c.in_ok-total.ensures.1 ∙ (ap₂ (λ a b. a + b) c.loop-session.invariant here ∙ sym more)
