use Rattle.shown_texts.proofs.Shown.{same_rows_by_texts, shown_read, texts_acceptable}
use Rattle.shown_texts.proofs.laws.shown_texts_are_read_back.Goals as goal

pub returns : goal.returns
returns c = record { each = shown_read; acceptable = texts_acceptable; same = same_rows_by_texts }
