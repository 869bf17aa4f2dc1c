use Rattle.std.proofs.Common.{◌∙◌}
use Rattle.row_tables.proofs.Openings.{opening_all}
use Rattle.row_tables.proofs.rows.Rows.opening.Goals as goal

pub returns : goal.returns
returns c = c.in_ok-hold_dynamic.ensures ∙ opening_all
