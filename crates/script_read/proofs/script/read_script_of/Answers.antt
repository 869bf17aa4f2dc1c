use Rattle.script_read.specs.Built.{IsBuiltCommand}
use Rattle.script_read.proofs.Seen.{found_same, only_same}
use Rattle.script_read.proofs.script.read_script_of.Goals as goal

pub returns-clause-found : goal.returns-clause-found
returns-clause-found g c =
    found_same (IsBuiltCommand g.F.Forms.built) (λ script. script.sessions) (λ script. script.lines) c.args.bytes.now c.read_lines.result
    c.read_lines.ensures.found

pub returns-clause-only : goal.returns-clause-only
returns-clause-only g c = λ names lines taken.
    only_same (λ script. script.sessions) (λ script. script.lines) c.read_lines.result names lines (c.read_lines.ensures.only names lines taken)
