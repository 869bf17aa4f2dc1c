use Rattle.accepted_lists.proofs.Columns.{few_columns}
use Rattle.accepted_lists.proofs.Within.{few_objects, within_history, within_opening}
use Rattle.accepted_lists.proofs.laws.accepted_statements_stay_within_limits.Goals as goal
use Rattle.acl_model.specs.Effects.{state_after}
use Rattle.acl_model.specs.State.{opening}

pub returns : goal.returns
returns c = record {
  first = within_opening;
  history = within_history;
  columns = λ history rows accepted listed a schema table p columns differ.
      few_columns rows (state_after history opening) listed a schema table p (few_objects (state_after history opening) (within_history history accepted)) columns differ;
}
