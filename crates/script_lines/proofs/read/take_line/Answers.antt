use Rattle.std.proofs.Common.{◌∙◌, map, sym}
use Rattle.std.proofs.lemmas.Result.{err_from_is_err_and}
use Rattle.script_lines.specs.Script.{seen}
use Rattle.script_lines.proofs.Reading.{not_seated}
use Rattle.script_lines.proofs.read.take_line.Goals as goal

pub returns-in_err-session-clause-err : goal.returns-in_err-session-clause-err
returns-in_err-session-clause-err g c =
    let e = err_from_is_err_and c.from_residual.result c.from_residual.ensures.1 in
    rw (e.1, e.2)
    (sym c.is_without_command.ensures ∙ c.if-is_without_command.false, not_seated g.C.Commands.spelled g.C.Commands.refused (c.args.number, c.args.text.now) _ _ c.args.script.now.sessions (map (seen g.C.Commands.view) c.args.script.now.lines) c.in_err-session.field-0.0 c.in-Ok.ensures.found c.in_err-session.ensures.err)
