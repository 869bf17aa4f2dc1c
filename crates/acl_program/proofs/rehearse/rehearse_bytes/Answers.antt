use Rattle.std.proofs.Common.{◌∙◌, sym, subst, IsTrue}
use Rattle.acl_program.proofs.Due.{due_read, due_refused, refusal_is_not_fine}
use Rattle.acl_program.proofs.Taken.{command_rules, each_line, lines_count}
use Rattle.acl_program.specs.Endings.{IsDue}
use Rattle.acl_program.specs.declared.cause.Cause.TheVariants.{Fine}
use Rattle.script_lines.specs.Texts.{command_lines}
use Rattle.script_read.specs.Built.{IsBuiltCommand}
use Rattle.script_run.specs.Forms.{is_built, keeps_rules}
use Rattle.acl_program.proofs.rehearse.rehearse_bytes.Goals as goal

pub run_script-requires-clause-count : goal.run_script-requires-clause-count
run_script-requires-clause-count c = lines_count (IsBuiltCommand is_built) c.args.bytes.now c.in-Ok.script.sessions c.in-Ok.script.lines c.in-Ok.ensures.found

pub run_script-requires-clause-built : goal.run_script-requires-clause-built
run_script-requires-clause-built c =
    each_line (IsBuiltCommand is_built) (λ command. IsTrue (is_built command)) (λ text command is. is.is_built) c.in-Ok.script.sessions (command_lines c.args.bytes.now) c.in-Ok.script.lines
    c.in-Ok.ensures.found.script.each

pub run_script-requires-clause-rules : goal.run_script-requires-clause-rules
run_script-requires-clause-rules c =
    each_line (IsBuiltCommand is_built) (λ command. IsTrue (keeps_rules command)) (λ text command is. command_rules text command is.is_command is.is_built) c.in-Ok.script.sessions
    (command_lines c.args.bytes.now) c.in-Ok.script.lines c.in-Ok.ensures.found.script.each

pub returns-in-Ok-run_script-clause-due : goal.returns-in-Ok-run_script-clause-due
returns-in-Ok-run_script-clause-due c =
    due_read c.args.bytes.now c.read_script_of.result c.in-Ok.script Fine c.in-Ok.is c.read_script_of.ensures.bad_line c.read_script_of.ensures.limit

pub returns-in-Err-clause-due : goal.returns-in-Err-clause-due
returns-in-Err-clause-due c =
    subst (IsDue c.args.bytes.now) (sym c.cause_of_script.ensures)
    (due_refused c.args.bytes.now c.read_script_of.result c.in-Err.refusal c.in-Err.is c.read_script_of.ensures.bad_line c.read_script_of.ensures.limit)

pub returns-in-Err-clause-err : goal.returns-in-Err-clause-err
returns-in-Err-clause-err c = λ e. refusal_is_not_fine c.in-Err.refusal (sym c.cause_of_script.ensures ∙ e)
