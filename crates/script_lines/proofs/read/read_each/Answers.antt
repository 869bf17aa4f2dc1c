use Rattle.std.proofs.lemmas.Result.{err_from_is_err_and}
use Rattle.script_lines.proofs.Reading.{read_next, refused_here, seated}
use Rattle.script_lines.proofs.read.read_each.Goals as goal

pub lines-preserved : goal.lines-preserved
lines-preserved g c =
    read_next g.C.Commands.spelled _ _ _ _ _ _ _ _ _ c.lines.invariant c.in-Some.ensures.first c.in-Some.ensures.shorter c.in_ok-take_line.ensures.ok c.in_ok-take_line.ensures.few

pub returns-in_err-take_line-clause-err : goal.returns-in_err-take_line-clause-err
returns-in_err-take_line-clause-err g c =
    let e = err_from_is_err_and c.from_residual.result c.from_residual.ensures.1 in
    rw (e.1, e.2)
    (refused_here g.C.Commands.spelled g.C.Commands.refused _ _ _ c.in-Some.behind.now _ _ _ c.in_err-take_line.field-0.0 c.lines.invariant c.in-Some.ensures.first c.requires c.in_err-take_line.ensures.err)

pub returns-clause-seated : goal.returns-clause-seated
returns-clause-seated g c = seated g.C.Commands.view g.C.Commands.spelled _ c.lines.invariant.texts c.lines.script.lines c.lines.invariant.are_lines.each
