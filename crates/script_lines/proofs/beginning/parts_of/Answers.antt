use Rattle.std.proofs.Common.{◌≡◌, ◌∙◌, ◌∷◌, true, ap}
use Rattle.script_lines.specs.Beginnings.{is_session_name}
use Rattle.script_lines.proofs.Fronts.{no_mark, not_both}
use Rattle.script_lines.proofs.beginning.parts_of.Goals as goal

pub returns-in_err-name-clause-only : goal.returns-in_err-name-clause-only
returns-in_err-name-clause-only c name command is_name text =
    absurd (c.in_err-name.ensures.only name (32 ∷ command) text (no_mark name is_name))

pub returns-in_err-command-clause-only : goal.returns-in_err-command-clause-only
returns-in_err-command-clause-only c name command is_name text =
    let cut = c.in_ok-name.ensures.only name (32 ∷ command) text (no_mark name is_name) in
    absurd (c.in_err-command.ensures.only command cut.1)

pub returns-then-not-is_valid-clause-only : goal.returns-then-not-is_valid-clause-only
returns-then-not-is_valid-clause-only c name command is_name text =
    let cut = c.in_ok-name.ensures.only name (32 ∷ command) text (no_mark name is_name) in
    let valid : c.is_valid.result ≡ true = c.is_valid.ensures ∙ ap is_session_name cut.0 ∙ is_name in
    absurd (not_both c.is_valid.result c.if-not-is_valid.true valid)
