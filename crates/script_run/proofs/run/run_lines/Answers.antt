use Rattle.std.proofs.Common.{◌≡◌, ◌∙◌, ◌+◌, ◌<◌, ◌++◌, ◌∷◌, [], take, set, ap, sym, subst, arith}
use Rattle.std.proofs.lemmas.List.{length-take-le, take_more}
use Rattle.map_publish.specs.History.{entries_of}
use Rattle.script_lines.specs.declared.lines.Line.{Line}
use Rattle.script_read.specs.declared.command.Command.{Command}
use Rattle.script_run.proofs.Running.{IsUnderWay, under_way_calls, under_way_first, under_way_next}
use Rattle.script_run.specs.Told.{told_by}
use Rattle.script_run.proofs.run.run_lines.Goals as goal

pub loop-line-init : goal.loop-line-init
loop-line-init c =
    under_way_first c.args.sessions c.in_ok-seats.seats.items c.in_ok-answers.answers.items (entries_of c.in_ok-published.published) c.in_ok-seats.ensures.count c.in_ok-seats.ensures.each
    c.in_ok-answers.ensures.items c.in_ok-published.ensures.entries

pub answer-answer-requires-clause-calls : goal.answer-answer-requires-clause-calls
answer-answer-requires-clause-calls c =
    let i = c.loop-line.line-index in
    let lines = c.args.lines.now in
    let line = c.line-item.result in
    let seated : line.session < c.args.sessions = subst (λ (l : Line Command). l.session < c.args.sessions) (sym c.line-item.is) (c.requires.sessions i line c.loop-line-test.true) in
    let few = under_way_calls (take i lines) c.loop-line.answers.items c.args.sessions c.loop-line.seats.items (entries_of c.loop-line.published) line.session c.index_mut-seat.result.now c.loop-line.invariant
    (omega (arith, seated, c.loop-line.invariant.long)) c.index_mut-seat.ensures.value in
    omega (arith, few, length-take-le i lines (omega arith), c.requires.count)

pub answer-answer-requires-clause-room : goal.answer-answer-requires-clause-room
answer-answer-requires-clause-room c =
    let i = c.loop-line.line-index in
    let lines = c.args.lines.now in
    omega (arith, c.loop-line.invariant.few, length-take-le i lines (omega arith), c.requires.count)

pub loop-line-preserved : goal.loop-line-preserved
loop-line-preserved c =
    let i = c.loop-line.line-index in
    let lines = c.args.lines.now in
    let line = c.line-item.result in
    let sessions = c.args.sessions in
    let seats = c.loop-line.seats.items in
    let answers = c.loop-line.answers.items in
    let after = entries_of c.answer-answer.new.published in
    let new = c.answer-answer.new.seat in
    let seated : line.session < sessions = subst (λ (l : Line Command). l.session < sessions) (sym c.line-item.is) (c.requires.sessions i line c.loop-line-test.true) in
    let next = under_way_next (take i lines) answers sessions seats (entries_of c.loop-line.published) after line c.index_mut-seat.result.now new c.answer-answer.result c.loop-line.invariant
    (omega (arith, seated, c.loop-line.invariant.long)) c.index_mut-seat.ensures.value c.answer-answer.ensures in
    let e : take i lines ++ line ∷ [] ≡ take (i + 1) lines = ap (λ (l : Line Command). take i lines ++ l ∷ []) c.line-item.is ∙ sym (take_more lines i line c.loop-line-test.true) in
    let pushed : c.push.new.self.items ≡ answers ++ c.told_by.result ∷ [] = c.in_ok-push.ensures.items in
    subst (λ as'. IsUnderWay (take (i + 1) lines) as' sessions (set seats line.session new) after) (sym (pushed ∙ ap (λ t. answers ++ t ∷ []) c.told_by.ensures))
    (subst (λ ls. IsUnderWay ls (answers ++ told_by line.session line.number c.answer-answer.result new ∷ []) sessions (set seats line.session new) after) e next)

pub returns-clause-seated : goal.returns-clause-seated
returns-clause-seated c = c.loop-line.invariant.placed
