use Rattle.accepted_lists.proofs.Circles.{no_circle_after, no_circle_from, no_circle_opening}
use Rattle.accepted_lists.proofs.laws.accepted_statements_close_no_circle.Goals as goal
use Rattle.acl_model.specs.State.{opening}

pub returns : goal.returns
returns c = record { first = no_circle_opening; next = no_circle_after; history = λ history accepted. no_circle_from history opening no_circle_opening accepted }
