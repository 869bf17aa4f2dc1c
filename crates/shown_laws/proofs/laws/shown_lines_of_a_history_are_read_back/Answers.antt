use Rattle.accepted_lists.proofs.Histories.{sound_history}
use Rattle.acl_model.specs.Effects.{state_after}
use Rattle.acl_model.specs.State.{opening}
use Rattle.shown_laws.proofs.Shown.{acceptable_lines, history_covers, legal_lines, same_rows_again}
use Rattle.shown_laws.proofs.laws.shown_lines_of_a_history_are_read_back.Goals as goal

pub returns : goal.returns
returns c = record {
  legal = λ history rows a accepted listed.
      legal_lines (state_after history opening) rows a (sound_history history accepted) (history_covers history rows a accepted listed);
  acceptable = λ history rows a accepted listed.
      acceptable_lines (state_after history opening) rows a (sound_history history accepted) (history_covers history rows a accepted listed);
  same = λ history rows a accepted listed.
      same_rows_again (state_after history opening) rows a (sound_history history accepted) (history_covers history rows a accepted listed);
}
