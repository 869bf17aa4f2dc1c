use Rattle.script_read.specs.Commands.{IsCommand}
use Rattle.script_read.proofs.Seen.{found_same, only_same}
use Rattle.script_read.proofs.script.read_script.Goals as goal

pub returns-clause-found : goal.returns-clause-found
returns-clause-found c =
    found_same IsCommand (λ script. script.sessions) (λ script. script.lines) c.args.bytes.now c.read_lines.result c.read_lines.ensures.found

pub returns-clause-only : goal.returns-clause-only
returns-clause-only c = λ names lines taken.
    only_same (λ script. script.sessions) (λ script. script.lines) c.read_lines.result names lines (c.read_lines.ensures.only names lines taken)
