use Rattle.accepted_lists.proofs.Histories.{sound_history}
use Rattle.acl_model.specs.Effects.{state_after}
use Rattle.acl_model.specs.State.{opening}
use Rattle.shown_laws.proofs.Shown.{history_covers}
use Rattle.shown_texts.proofs.NamesAfter.{names_history}
use Rattle.shown_texts.proofs.Shown.{same_rows_by_texts, shown_read, texts_acceptable}
use Rattle.shown_texts.proofs.laws.shown_texts_of_a_history_are_read_back.Goals as goal

pub returns : goal.returns
returns c = record {
  each = λ history rows a accepted names listed stood.
      shown_read (state_after history opening) rows a (sound_history history accepted) (history_covers history rows a accepted listed) (names_history history names accepted) stood;
  acceptable = λ history rows a accepted names listed stood.
      texts_acceptable (state_after history opening) rows a (sound_history history accepted) (history_covers history rows a accepted listed) (names_history history names accepted) stood;
  same = λ history rows a accepted names listed stood.
      same_rows_by_texts (state_after history opening) rows a (sound_history history accepted) (history_covers history rows a accepted listed) (names_history history names accepted) stood;
}
