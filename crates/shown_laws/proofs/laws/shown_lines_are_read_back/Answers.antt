use Rattle.shown_laws.proofs.Shown.{acceptable_lines, legal_lines, same_rows_again}
use Rattle.shown_laws.proofs.laws.shown_lines_are_read_back.Goals as goal

pub returns : goal.returns
returns c = record { legal = legal_lines; acceptable = acceptable_lines; same = same_rows_again }
