use Rattle.std.proofs.Common.{map, string_bytes}
use Rattle.acl_program.specs.declared.cause.Cause.TheVariants.{Fine, WriteFault}
use Rattle.acl_program.proofs.Due.{bad_script_exactly, caused_as, due_as, due_ended, limit_exactly, read_for_later}
use Rattle.acl_program.proofs.serve.serve.Goals as goal

pub returns-in-Err-clause-bad_script : goal.returns-in-Err-clause-bad_script
returns-in-Err-clause-bad_script g c =
    bad_script_exactly _ _ (caused_as _ _ _ c.ended.ensures.cause c.in-Err.ensures.cause)
    (due_as _ _ _ c.ended.ensures.cause c.in-Err.ensures.due)

pub returns-in-Err-clause-limit : goal.returns-in-Err-clause-limit
returns-in-Err-clause-limit g c =
    limit_exactly _ _ (caused_as _ _ _ c.ended.ensures.cause c.in-Err.ensures.cause)
    (due_as _ _ _ c.ended.ensures.cause c.in-Err.ensures.due)

pub returns-in_default-clause-taken : goal.returns-in_default-clause-taken
returns-in_default-clause-taken g c = λ step. read_for_later _ _ _ c.ended-in_default.ensures.cause (c.in-Ok.ensures.taken step)

pub returns-in-Ok-write_all-clause-bad_script : goal.returns-in-Ok-write_all-clause-bad_script
returns-in-Ok-write_all-clause-bad_script g c = bad_script_exactly _ Fine c.in-Ok.ensures.cause c.in-Ok.ensures.due

pub returns-in-Ok-write_all-clause-limit : goal.returns-in-Ok-write_all-clause-limit
returns-in-Ok-write_all-clause-limit g c = limit_exactly _ Fine c.in-Ok.ensures.cause c.in-Ok.ensures.due

pub returns-clause-bad_script : goal.returns-clause-bad_script
returns-clause-bad_script g c =
    bad_script_exactly _ _ (caused_as _ WriteFault _ c.ended-in-Err-write_all.ensures.cause c.in-Ok.ensures.cause)
    (due_ended _ _ c.in-Ok.ensures.due)

pub returns-clause-limit : goal.returns-clause-limit
returns-clause-limit g c =
    limit_exactly _ _ (caused_as _ WriteFault _ c.ended-in-Err-write_all.ensures.cause c.in-Ok.ensures.cause)
    (due_ended _ _ c.in-Ok.ensures.due)
