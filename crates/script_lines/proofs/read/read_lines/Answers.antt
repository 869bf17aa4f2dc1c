use Rattle.std.proofs.Common.{map}
use Rattle.script_lines.specs.Script.{seen}
use Rattle.script_lines.proofs.Cuts.{IsExact}
use Rattle.script_lines.proofs.Readings.{bad_line_is_told, limit_is_told, taken_is_read}
use Rattle.script_lines.proofs.read.read_lines.Goals as goal

pub returns-clause-only : goal.returns-clause-only
returns-clause-only g c =
    let exact : IsExact g.C.Commands.spelled g.C.Commands.refused = record { one_meaning = g.met.C.Commands.one_meaning; one_refusal = g.met.C.Commands.one_refusal; apart = g.met.C.Commands.apart } in
    taken_is_read g.C.Commands.spelled g.C.Commands.refused (λ script. script.sessions) (λ script. map (seen g.C.Commands.view) script.lines) c.args.bytes.now c.read_each.result exact c.read_each.ensures.found c.read_each.ensures.err

pub returns-clause-bad_line : goal.returns-clause-bad_line
returns-clause-bad_line g c =
    let exact : IsExact g.C.Commands.spelled g.C.Commands.refused = record { one_meaning = g.met.C.Commands.one_meaning; one_refusal = g.met.C.Commands.one_refusal; apart = g.met.C.Commands.apart } in
    bad_line_is_told g.C.Commands.spelled g.C.Commands.refused (λ script. script.sessions) (λ script. map (seen g.C.Commands.view) script.lines) c.args.bytes.now c.read_each.result exact c.read_each.ensures.found c.read_each.ensures.err

pub returns-clause-limit : goal.returns-clause-limit
returns-clause-limit g c =
    let exact : IsExact g.C.Commands.spelled g.C.Commands.refused = record { one_meaning = g.met.C.Commands.one_meaning; one_refusal = g.met.C.Commands.one_refusal; apart = g.met.C.Commands.apart } in
    limit_is_told g.C.Commands.spelled g.C.Commands.refused (λ script. script.sessions) (λ script. map (seen g.C.Commands.view) script.lines) c.args.bytes.now c.read_each.result exact c.read_each.ensures.found c.read_each.ensures.err
