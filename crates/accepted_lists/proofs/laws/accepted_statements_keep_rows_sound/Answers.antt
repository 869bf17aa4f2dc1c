use Rattle.accepted_lists.proofs.Histories.{sound_after, sound_history, sound_opening}
use Rattle.accepted_lists.proofs.laws.accepted_statements_keep_rows_sound.Goals as goal

pub returns : goal.returns
returns c = record { first = sound_opening; next = sound_after; history = sound_history }
