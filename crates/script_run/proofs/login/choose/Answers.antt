use Rattle.std.proofs.Common.{◌∙◌, sym}
use Rattle.acl_rows.specs.Tables.{state_of}
use Rattle.script_run.proofs.Entering.{chooses_anywhere, chooses_local, chooses_none}
use Rattle.script_run.proofs.login.choose.Goals as goal

pub returns-then-is_standing : goal.returns-then-is_standing
returns-then-is_standing c =
    chooses_local (state_of c.args.rows.now) c.args.user.now c.in_ok-local.local c.in_ok-local.ensures.user c.in_ok-local.ensures.host (sym c.is_standing.ensures ∙ c.if-is_standing.true)

pub returns-then-is_standing-2 : goal.returns-then-is_standing-2
returns-then-is_standing-2 c =
    chooses_anywhere (state_of c.args.rows.now) c.args.user.now c.in_ok-local.local c.in_ok-anywhere.anywhere c.in_ok-local.ensures.user c.in_ok-local.ensures.host (sym c.is_standing.ensures ∙ c.if-is_standing.false)
    c.in_ok-anywhere.ensures.user c.in_ok-anywhere.ensures.host (sym c.is_standing-2.ensures ∙ c.if-is_standing-2.true)

pub returns : goal.returns
returns c =
    chooses_none (state_of c.args.rows.now) c.args.user.now c.in_ok-local.local c.in_ok-anywhere.anywhere c.in_ok-local.ensures.user c.in_ok-local.ensures.host (sym c.is_standing.ensures ∙ c.if-is_standing.false)
    c.in_ok-anywhere.ensures.user c.in_ok-anywhere.ensures.host (sym c.is_standing-2.ensures ∙ c.if-is_standing-2.false)
