use Rattle.std.proofs.Common.{◌∙◌, sym, refl}
use Rattle.acl_model.specs.Acceptance.{IsRefused}
use Rattle.map_publish.specs.History.{entries_of}
use Rattle.script_run.proofs.Issuing.{cause_holds}
use Rattle.script_run.specs.Seats.Tries.{Refuses}
use Rattle.script_run.specs.Lines.{state_now}
use Rattle.script_run.proofs.issue.run.Goals as goal

pub returns-else-is_want : goal.returns-else-is_want
returns-else-is_want c =
    Refuses c.in-Err.refusal (cause_holds (IsRefused (state_now (entries_of c.args.published.now)) c.args.entry) c.in-Err.refusal (sym c.is_want.ensures ∙ c.if-is_want.false) c.in-Err.ensures.err)
    c.in-Err.ensures.entries refl refl
