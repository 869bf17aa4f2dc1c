use Rattle.std.proofs.Common.{◌∙◌, ap, sym, subst, map, string_bytes, Err}
use Rattle.acl_program.proofs.Due.{caused, due_as, due_input, err_otherwise, of_whole, rehearsed_whole}
use Rattle.acl_program.specs.Causes.{cause_of_fault, cause_so_far}
use Rattle.acl_program.specs.Endings.{IsCausedBy, IsMade}
use Rattle.acl_program.proofs.rehearse.rehearse_source.Goals as goal

pub returns-in-Ok-clause-cause : goal.returns-in-Ok-clause-cause
returns-in-Ok-clause-cause g c =
    let made = subst (λ b. IsMade b (cause_so_far c.rehearse_bytes.result)) c.deref.ensures.value c.rehearse_bytes.ensures.made in
    of_whole _ _ c.in-Ok.bytes.items (λ bytes. IsCausedBy bytes (cause_so_far c.rehearse_bytes.result)) c.in-Ok.ensures.ok
    (caused c.in-Ok.bytes.items (cause_so_far c.rehearse_bytes.result) made)

pub returns-in-Ok-clause-report : goal.returns-in-Ok-clause-report
returns-in-Ok-clause-report g c = rehearsed_whole c.rehearse_bytes.result _ _ c.in-Ok.bytes.items c.deref.result.now c.deref.ensures.value c.in-Ok.ensures.ok c.rehearse_bytes.ensures.report

pub returns-in-Ok-clause-err : goal.returns-in-Ok-clause-err
returns-in-Ok-clause-err g c = err_otherwise c.rehearse_bytes.result c.deref.result.now c.rehearse_bytes.ensures.made c.rehearse_bytes.ensures.err

pub returns-in-Err-clause-due : goal.returns-in-Err-clause-due
returns-in-Err-clause-due g c =
    due_as _ (cause_of_fault c.in-Err.fault) c.cause_of_input.result c.cause_of_input.ensures
    (due_input _ _ c.in-Err.fault (λ e. c.read_all.ensures.too_long (c.in-Err.is ∙ ap Err e)))
