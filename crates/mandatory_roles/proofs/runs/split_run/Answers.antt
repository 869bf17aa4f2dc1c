use Rattle.std.proofs.Common.{IsCharBoundary, ap, sym, subst, ◌∙◌}
use Rattle.std.specs.List.{prefix_len}
use Rattle.mandatory_roles.specs.Runs.{has}
use Rattle.mandatory_roles.proofs.Fronts.{front_by_length, rest_by_length, run_boundary}
use Rattle.mandatory_roles.proofs.runs.split_run.Goals as goal

pub split_at-requires : goal.split_at-requires
split_at-requires c =
    let length_is = c.run_length-length.ensures ∙ ap (prefix_len (has c.args.run)) c.as_bytes.ensures.value in
    subst (IsCharBoundary c.args.text.now) (sym length_is) (run_boundary c.args.run c.args.text.now c.utf8.text)

pub returns-clause-front : goal.returns-clause-front
returns-clause-front c = front_by_length (has c.args.run) _ _ _ _ c.run_length-length.ensures c.as_bytes.ensures.value c.split_at.ensures.front

pub returns-clause-rest : goal.returns-clause-rest
returns-clause-rest c = rest_by_length (has c.args.run) _ _ _ _ c.run_length-length.ensures c.as_bytes.ensures.value c.split_at.ensures.back
