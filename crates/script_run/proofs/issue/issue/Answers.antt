use Rattle.std.proofs.Common.{◌∙◌, ap, sym}
use Rattle.acl_model.specs.State.{root}
use Rattle.acl_names.specs.AuthId.{same_auth}
use Rattle.map_publish.specs.History.{entries_of}
use Rattle.script_run.proofs.Issuing.{denies, no_memory_issue, not_connected_issue, tries}
use Rattle.script_run.proofs.issue.issue.Goals as goal

pub returns-then-not-is_root : goal.returns-then-not-is_root
returns-then-not-is_root c =
    denies (entries_of c.args.published.now) c.args.caller c.args.seat.now c.in-Some.state c.args.statement.now c.no_right.result c.in-Some.is c.requires.sound
    c.requires.form c.requires.rules
    (ap (λ acting. same_auth acting.account root) (sym c.acting.ensures) ∙ sym c.is_root.ensures ∙ c.if-not-is_root.true) c.no_right.ensures

pub returns-in-None : goal.returns-in-None
returns-in-None c = not_connected_issue (entries_of c.args.published.now) c.args.caller c.args.seat.now c.args.statement.now c.in-None.is c.requires.sound

pub returns-in-Ok : goal.returns-in-Ok
returns-in-Ok c =
    tries (entries_of c.args.published.now) (entries_of c.run.new.published) c.args.caller c.args.seat.now c.run.new.seat c.in-Some.state c.args.statement.now c.in-Ok.entry c.run.result c.in-Some.is c.requires.sound
    c.requires.form c.requires.rules
    (ap (λ acting. same_auth acting.account root) (sym c.acting.ensures) ∙ sym c.is_root.ensures ∙ c.if-not-is_root.false)
    (rw c.acting-in-Some.ensures at c.in-Ok.ensures) c.run.ensures

pub returns-in-Err : goal.returns-in-Err
returns-in-Err c = no_memory_issue (entries_of c.args.published.now) c.args.caller c.args.seat.now c.args.statement.now c.requires.sound
